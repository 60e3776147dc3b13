use Rattle.cert_check.proofs.missing.missing_copy.Given as goal
use Rattle.cert_check.proofs.Missed.{NoneBefore}

abbrev pub invariant-loop-i : goal.invariant-loop-i
invariant-loop-i l = NoneBefore l.cert l.from l.to l.i
