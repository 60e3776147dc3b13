use Rattle.cert_check.proofs.Common.{BreaksControl, length, ◌-◌}
use Rattle.cert_check.proofs.Search.{NoneUpTo}
use Rattle.cert_check.proofs.copies.find_control.Given as goal
use Rattle.cert_check.proofs.Violations.{first_of}

abbrev pub invariant-loop-at : goal.invariant-loop-at
invariant-loop-at l = NoneUpTo (BreaksControl l.cert) first_of l.cert l.next

abbrev pub decreases-loop-at : goal.decreases-loop-at
decreases-loop-at l = length l.cert - l.next
