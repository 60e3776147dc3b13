use Rattle.cap_machine.proofs.Common.{refl}
use Rattle.cap_machine.proofs.NodeSlots.{insert_last, below_last}
use Rattle.cap_machine.proofs.node.Node.add.Goals as goal

pub invariant_of-self-2 : goal.invariant_of-self-2
invariant_of-self-2 c = record {
  rising = c.in_ok-insert.ensures.ordered;
  below = rw (c.in_ok-insert.ensures.entries, insert_last _ _ c.args.content c.self.invariant.below)
      (below_last _ _ c.args.content c.self.invariant.below);
}

pub returns-clause-ok : goal.returns-clause-ok
returns-clause-ok c = rw (
  c.in_ok-insert.ensures.entries,
  insert_last _ _ c.args.content c.self.invariant.below,
  ← c.self.view_is,
) refl
