-- In a gathered list what each element gives stands apart from what the others give
use Rattle.spec_laws.proofs.Common.{List, Some, [], arith, before, cases_lt, gather, inl, inr, length, length_append, map, range_with_len, refl, rules, slice_get, suc, take, zero, ℕ, ◌+◌, ◌<◌, ◌∷◌, ◌≡◌, ◌≤◌}

pub behind : {X Y : Type 0} (f : ℕ → X → List Y) (xs : List X) (a b : ℕ) (x : X) → slice_get xs a ≡ Some x → a < b
    → before f xs a + length (f a x) ≤ before f xs b
behind f [] a b x e l = cc
behind f (y ∷ xs) a zero x e l = absurd (omega (arith, l))
behind {X} f (y ∷ xs) zero (suc b) x e l = grind (arith, length_append)
behind {X} f (y ∷ xs) (suc a) (suc b) x e l =
    let g : ℕ → X → List _ = λ n z. f (suc n) z in
    let ih = behind g xs a b x e (omega (arith, l)) in
    omega (arith, ih, length_append (f 0 y) (gather g (take a xs)), length_append (f 0 y) (gather g (take b xs)))

pub inside : {X Y : Type 0} (f : ℕ → X → List Y) (xs : List X) (a : ℕ) (x : X) → slice_get xs a ≡ Some x
    → before f xs a + length (f a x) ≤ length (gather f xs)
inside f [] a x e = cc
inside f (y ∷ xs) zero x e = grind (arith, length_append)
inside {X} f (y ∷ xs) (suc a) x e =
    let g : ℕ → X → List _ = λ n z. f (suc n) z in
    omega (arith, inside g xs a x e, length_append (f 0 y) (gather g (take a xs)), length_append (f 0 y) (gather g xs))

pub apart : {X Y : Type 0} (f : ℕ → X → List Y) (xs : List X) (a b i j : ℕ) (x y : X) → slice_get xs a ≡ Some x
    → slice_get xs b ≡ Some y → i < length (f a x) → j < length (f b y) → before f xs a + i ≡ before f xs b + j
    → (a ≡ b) × (i ≡ j)
apart f xs a b i j x y d e k l same = elim (cases_lt a b) [
  | inl h ↦ let m = behind f xs a b x d h in absurd (omega (arith, m, k, same))
  | inr h ↦ elim (cases_lt b a) [
    | inl g ↦ let m = behind f xs b a y e g in absurd (omega (arith, m, l, same))
    | inr g ↦ search (rules)
  ]
]

pub as_long : {X : Type 0} (f : ℕ → X) (a n : ℕ) → length (map f (range_with_len a n)) ≡ n
as_long f a zero = refl
as_long f a (suc n) = let l = as_long f (a + 1) n in omega (arith, l)
