use Rattle.cap_audit.proofs.Common.{Notes, length}
use Rattle.cap_audit.proofs.Gaining.{IsBefore}
use Rattle.cap_audit.proofs.making.Making.note_table.Given as goal

abbrev pub invariant-loop-edge : goal.invariant-loop-edge
invariant-loop-edge l = Notes (IsBefore l.table (length l.yielded)) l.initial.self l.self
