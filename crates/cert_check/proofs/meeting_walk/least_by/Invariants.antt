use Rattle.cert_check.proofs.Common.{length, ◌-◌}
use Rattle.cert_check.proofs.Walks.{Walked}
use Rattle.cert_check.proofs.meeting_walk.least_by.Given as goal

abbrev pub invariant-loop-at : goal.invariant-loop-at
invariant-loop-at l = Walked l.rule l.cert l.partners.ends.items l.next l.last

abbrev pub decreases-loop-at : goal.decreases-loop-at
decreases-loop-at l = length l.cert - l.next
