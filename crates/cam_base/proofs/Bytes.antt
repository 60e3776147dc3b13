-- Lists of bytes compared.
use Rattle.cam_base.proofs.Common.{Bool, List, ap, cases_Bool, false, inl, inr, length, refl, sym, true, ℕ, ◌∙◌, ◌≡◌}
use Rattle.std.proofs.lemmas.Slice.Eq.{bytes_eq-Decides}
use Rattle.std.specs.Str.{bytes_eq}

pub bytes_eq-refl : (a : List ℕ) → bytes_eq a a ≡ true
bytes_eq-refl a = (bytes_eq-Decides a a).1 refl

pub bytes_eq-sym : (a b : List ℕ) → bytes_eq a b ≡ bytes_eq b a
bytes_eq-sym a b = by_tests (bytes_eq a b) (bytes_eq b a) refl refl
  where
    by_tests : (p q : Bool) → bytes_eq a b ≡ p → bytes_eq b a ≡ q → p ≡ q
    by_tests true true e d = refl
    by_tests true false e d = sym ((bytes_eq-Decides b a).1 (sym ((bytes_eq-Decides a b).0 e))) ∙ d
    by_tests false true e d = sym e ∙ (bytes_eq-Decides a b).1 (sym ((bytes_eq-Decides b a).0 d))
    by_tests false false e d = refl

-- bytes of another length differ
pub other_length : (a b : List ℕ) → (length a ≡ length b → ⊥) → bytes_eq a b ≡ false
other_length a b n = elim (cases_Bool (bytes_eq a b)) [ inl h ↦ absurd (n (ap length ((bytes_eq-Decides a b).0 h))) | inr h ↦ h ]
