use Rattle.cert_check.proofs.Common.{length, ◌-◌}
use Rattle.cert_check.proofs.Walks.{Covers}
use Rattle.cert_check.proofs.meeting_walk.find_meeting.Given as goal

abbrev pub invariant-loop-next : goal.invariant-loop-next
invariant-loop-next l = Covers l.rule l.cert l.next l.best

abbrev pub decreases-loop-next : goal.decreases-loop-next
decreases-loop-next l = length l.cert - l.next
