use Rattle.adl_hierarchy.proofs.Common.{arith}
use Rattle.adl_hierarchy.proofs.Marks.{has_at}
use Rattle.adl_hierarchy.proofs.Reach.{more_none, more_next}
use Rattle.adl_hierarchy.proofs.holding.add_each.Goals as goal

pub loop-number-init : goal.loop-number-init
loop-number-init c = more_none _

pub insert-requires : goal.insert-requires
insert-requires c =
    rw c.loop-number.invariant.size (c.requires _ (has_at c.args.numbers.now c.loop-number.number-index (omega arith)))

pub loop-number-preserved : goal.loop-number-preserved
loop-number-preserved c = more_next _ _ _ _ c.loop-number.number-index (omega arith) c.loop-number.invariant
    c.in_ok-insert.ensures
