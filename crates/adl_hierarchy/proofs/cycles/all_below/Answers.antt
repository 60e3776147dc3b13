use Rattle.adl_hierarchy.proofs.Common.{arith}
use Rattle.adl_hierarchy.proofs.CycleSearch.{more_below}
use Rattle.adl_hierarchy.proofs.cycles.all_below.Goals as goal

pub loop-number-preserved : goal.loop-number-preserved
loop-number-preserved c = more_below c.loop-number.numbers.items _ c.loop-number.number _ c.in_ok-push.ensures.items
    c.loop-number.invariant (omega arith)
