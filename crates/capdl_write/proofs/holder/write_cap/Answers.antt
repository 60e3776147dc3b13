use Rattle.capdl_write.proofs.Common.{arith, nat_tests, not, sym, true, ℕ, ◌==◌, ◌∙◌, ◌≡◌}
use Rattle.capdl_write.proofs.CapEnds.{with_badge, with_both, without_badge}
use Rattle.capdl_write.proofs.holder.write_cap.Goals as goal

not_zero : (n : ℕ) → (n ≡ 0 → ⊥) → not (n == 0) ≡ true
not_zero n h = grind (arith, nat_tests)

pub returns-then-cap-eq0 : goal.returns-then-cap-eq0
returns-then-cap-eq0 g c =
    let h = rw (c.name-name.ensures, c.end_word.ensures, without_badge) at c.texts.ensures in
    rw (c.if-cap-eq0.true) h

pub returns-then-any : goal.returns-then-any
returns-then-any g c =
    let h = rw (
      c.name-name.ensures,
      c.rights_word-rights.ensures,
      c.as_bytes-badge.ensures.value,
      c.format.ensures.text,
      with_both,
    ) at c.texts-then-any.ensures in
    rw (sym c.any.ensures ∙ c.if-any.true, not_zero c.args.cap.now.badge c.if-cap-eq0.false) h

pub returns-else-any : goal.returns-else-any
returns-else-any g c =
    let h = rw (c.name-name.ensures, c.as_bytes-badge.ensures.value, c.format.ensures.text, with_badge) at
    c.texts-else-any.ensures in
    rw (sym c.any.ensures ∙ c.if-any.false, not_zero c.args.cap.now.badge c.if-cap-eq0.false) h
