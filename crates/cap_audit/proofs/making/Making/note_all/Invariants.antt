use Rattle.cap_audit.proofs.Common.{Notes}
use Rattle.cap_audit.proofs.Gaining.{IsBefore}
use Rattle.cap_audit.proofs.making.Making.note_all.Given as goal

abbrev pub invariant-loop-edge : goal.invariant-loop-edge
invariant-loop-edge l = Notes (IsBefore l.edges l.edge-index) l.initial.self l.self
