use Rattle.cap_audit.proofs.Common.{AreLeft}
use Rattle.cap_audit.proofs.kinds.leave_out.Given as goal

abbrev pub invariant-loop-c : goal.invariant-loop-c
invariant-loop-c l = AreLeft l.heads l.initial.roots l.roots
