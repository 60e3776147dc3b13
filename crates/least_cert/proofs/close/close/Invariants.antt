use Rattle.least_cert.proofs.Common.{LooksAt, ◌-◌}
use Rattle.least_cert.proofs.close.close.Given as goal

abbrev pub invariant-loop-done : goal.invariant-loop-done
invariant-loop-done l = LooksAt l.done l.initial.closing l.closing

abbrev pub decreases-loop-done : goal.decreases-loop-done
decreases-loop-done l = 262144 - l.done
