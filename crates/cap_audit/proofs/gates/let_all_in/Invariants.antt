use Rattle.cap_audit.proofs.Common.{AreGates}
use Rattle.cap_audit.proofs.gates.let_all_in.Given as goal

abbrev pub invariant-loop-place : goal.invariant-loop-place
invariant-loop-place l = AreGates l.spec l.findings l.heads l.gates l.place
