use Rattle.cap_audit.proofs.Common.{AreRosters}
use Rattle.cap_audit.proofs.gates.enrol_all.Given as goal

abbrev pub invariant-loop-t : goal.invariant-loop-t
invariant-loop-t l = AreRosters l.spec l.rosters l.t
