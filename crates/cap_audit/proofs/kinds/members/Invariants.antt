use Rattle.cap_audit.proofs.Common.{AreMembers}
use Rattle.cap_audit.proofs.kinds.members.Given as goal

abbrev pub invariant-loop-c : goal.invariant-loop-c
invariant-loop-c l = AreMembers l.heads l.members l.c
