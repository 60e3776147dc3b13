-- What stands in lists that are made of others.
use Rattle.adl_hierarchy.proofs.Common.{IsIn, List, Some, [], eq-eqb, eqb-true, has, inl, inr, nat_eq, or_cases, or_left, or_right, suc, sym, true, zero, ℕ, ◌∷◌}
use Rattle.adl_hierarchy.proofs.Common.{◌≡◌}
use Rattle.std.specs.List.{slice_get}

pub in_get : {X : Type 0} (xs : List X) (n : ℕ) (x : X) → slice_get xs n ≡ Some x → IsIn x xs
in_get [] n x e = cc
in_get (y ∷ xs) zero x e = inl (cc)
in_get (y ∷ xs) (suc n) x e = inr (in_get xs n x e)

pub in_has : (x : ℕ) (xs : List ℕ) → has xs x ≡ true → IsIn x xs
in_has x [] e = cc
in_has x (y ∷ xs) e = elim (or_cases (nat_eq x y) (has xs x) e) [
  | inl p ↦ inl (sym (eqb-true x y p))
  | inr p ↦
      inr (in_has x xs p)
]

pub has_in : (x : ℕ) (xs : List ℕ) → IsIn x xs → has xs x ≡ true
has_in x [] i = absurd i
has_in x (y ∷ xs) (inl e) = or_left (nat_eq x y) (has xs x) (eq-eqb x y (sym e))
has_in x (y ∷ xs) (inr i) = or_right (nat_eq x y) (has xs x) (has_in x xs i)
