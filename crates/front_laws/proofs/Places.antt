-- Lists by place.
use Rattle.front_laws.proofs.Common.{Bool, List, None, Some, [], ap, arith, below, cond, false, inl, inr, length, lt-ltb, not, position, position_or_len, refl, rules, slice_get, split_get, suc, true, zero, ℕ, ◌++◌, ◌+◌, ◌<◌, ◌∙◌, ◌∷◌, ◌≡◌, ◌≤◌}

-- a list parted at a place
pub at_split : {X : Type 0} (xs : List X) (n : ℕ) (x : X) → slice_get xs n ≡ Some x → (p q : List X) × (xs ≡ p ++ x ∷ q)
    × (length p ≡ n)
at_split [] n x e = cc
at_split (y ∷ xs) zero x e = let same : y ≡ x = cc in ([], xs, ap (λ z. z ∷ xs) same, refl)
at_split (y ∷ xs) (suc n) x e = let r = at_split xs n x e in (y ∷ r.0, r.1, ap (λ z. y ∷ z) r.2, omega (arith, r.3))

-- what stands in front of an end
pub front_get : {X : Type 0} (p q : List X) (n : ℕ) (x : X) → slice_get (p ++ q) n ≡ Some x → n < length p
    → slice_get p n ≡ Some x
front_get p q n x e l = elim (split_get p q n x e) [ inl i ↦ i | inr i ↦ let k = i.1 in absurd (omega (arith, k, l)) ]

-- the first that passes stands no later than any that does
passes_late : {X : Type 0} (p : X → Bool) (xs : List X) (k : ℕ) (x : X) → slice_get xs k ≡ Some x → p x ≡ true
    → position_or_len p xs ≤ k
passes_late p [] k x e t = cc
passes_late {X} p (y ∷ xs) zero x e t = search (rules)
passes_late p (y ∷ xs) (suc k) x e t = by_test (p y) (passes_late p xs k x e t)
  where
    by_test : (b : Bool) → position_or_len p xs ≤ k → cond (not b) (1 + position_or_len p xs) 0 ≤ suc k
    by_test true l = omega arith
    by_test false l = omega (arith, l)

-- where nothing passes
pub none_passes : {X : Type 0} (p : X → Bool) (xs : List X) (k : ℕ) (x : X) → position p xs ≡ None → slice_get xs k ≡ Some x
    → p x ≡ true → ⊥
none_passes p xs k x none e t = search (rules, lt-ltb, passes_late, below)
