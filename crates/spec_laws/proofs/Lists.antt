-- Lists: what stands in them, and numbers that rise.
use Rattle.spec_laws.proofs.Common.{IsIn, List, Rises, Some, [], arith, inl, map, range_with_len, refl, slice_get, suc, zero, ℕ, ◌<◌, ◌∷◌, ◌≡◌, ◌≤◌, Bool, true, false, cond, inr}

-- what stands in a list that is empty unless a test passes
pub from_if : {X : Type 0} (b : Bool) (xs : List X) (y : X) → IsIn y (cond b xs []) → (b ≡ true) × IsIn y xs
from_if true xs y i = (refl, i)
from_if false xs y i = absurd i

pub shown_if : {X : Type 0} (b : Bool) (x y : X) → IsIn y (cond b (x ∷ []) []) → (b ≡ true) × (x ≡ y)
shown_if true x y (inl e) = (refl, e)
shown_if true x y (inr n) = absurd n
shown_if false x y n = absurd n

pub in_range : (a n : ℕ) → 0 < n → IsIn a (range_with_len a n)
in_range a zero l = absurd (omega (arith, l))
in_range a (suc n) l = inl refl

-- ---- numbers that rise tell their places

above : {X : Type 0} (f : X → ℕ) (x : X) (xs : List X) (k : ℕ) (y : X) → Rises (map f (x ∷ xs))
    → slice_get xs k ≡ Some y → f x < f y
above f x [] k y r e = cc
above f x (z ∷ zs) k y r e = grind (arith, above f z zs)

pub rises_tell : {X : Type 0} (f : X → ℕ) (xs : List X) (i j : ℕ) (x y : X) → Rises (map f xs) → slice_get xs i ≡ Some x
    → slice_get xs j ≡ Some y → f x ≡ f y → x ≡ y
rises_tell f [] i j x y r e g same = cc
rises_tell f (z ∷ zs) i j x y r e g same = grind (arith, above f z zs, rises_tell f zs)

-- what stands no later is no more
pub not_above : {X : Type 0} (f : X → ℕ) (xs : List X) (i j : ℕ) (x y : X) → Rises (map f xs) → slice_get xs i ≡ Some x
    → slice_get xs j ≡ Some y → i ≤ j → f x ≤ f y
not_above f [] i j x y r e g l = cc
not_above f (z ∷ zs) i j x y r e g l = grind (arith, above f z zs, not_above f zs)
