use Rattle.cap_audit.proofs.Common.{AreFirsts, AreRows}
use Rattle.cap_audit.proofs.kinds.firsts.Given as goal

abbrev pub invariant-loop-c : goal.invariant-loop-c
invariant-loop-c l = record {
  firsts : AreFirsts l.classes l.marks l.firsts.items l.c;
  rows : AreRows l.classes l.firsts.items l.rows;
}
