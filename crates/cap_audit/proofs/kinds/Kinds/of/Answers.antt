use Rattle.cap_audit.proofs.Common.{AreFirsts, List, length, subst, ℕ}
use Rattle.cap_audit.proofs.kinds.Kinds.of.Goals as goal

pub returns-clause-faces : goal.returns-clause-faces
returns-clause-faces c =
    subst (λ (xs : List ℕ). AreFirsts c.args.classes.now xs c.in_ok-faces.faces.items (length c.args.classes.now))
    c.as_slice.ensures c.in_ok-faces.ensures

pub returns-clause-heads : goal.returns-clause-heads
returns-clause-heads c = record {
  marks = c.in_ok-marks.marks.items;
  are = c.in_ok-marks.ensures;
  firsts = subst (λ (xs : List ℕ). AreFirsts c.args.classes.now xs c.in_ok-heads.heads.items (length c.args.classes.now))
      c.as_slice-2.ensures.value c.in_ok-heads.ensures;
}
