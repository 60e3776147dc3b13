use Rattle.cap_machine.proofs.Common.{refl}
use Rattle.cap_machine.proofs.NodeSlots.{remove-filter, below_filter}
use Rattle.cap_machine.proofs.node.Node.remove.Goals as goal

pub invariant_of-self : goal.invariant_of-self
invariant_of-self c = record {
  rising = c.remove.ensures.ordered;
  below = rw (c.remove.ensures.entries, remove-filter _ c.args.i c.self.invariant.rising)
      (below_filter _ _ _ c.self.invariant.below);
}

pub returns : goal.returns
returns c = rw (c.remove.ensures.entries, remove-filter _ c.args.i c.self.invariant.rising, ← c.self.view_is) refl
