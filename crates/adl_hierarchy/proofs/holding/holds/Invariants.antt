use Rattle.adl_hierarchy.proofs.Common.{length, ◌-◌}
use Rattle.adl_hierarchy.proofs.Reach.{IsReach}
use Rattle.adl_hierarchy.proofs.holding.holds.Given as goal

abbrev pub invariant-loop-next : goal.invariant-loop-next
invariant-loop-next l = IsReach l.graph l.from l.found l.next

abbrev pub decreases-loop-next : goal.decreases-loop-next
decreases-loop-next l = length l.graph - l.next
