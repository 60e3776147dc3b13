-- Elements that pass a test, counted.
use Rattle.flat_laws.proofs.Common.{Bool, List, Some, [], ap, arith, cond, count_by, false, refl, slice_get, suc, sum_by-cons, true, zero, ℕ, ◌+◌, ◌∙◌, ◌∷◌, ◌≡◌, ◌≤◌}

abbrev one : Bool → ℕ
one b = cond b 1 0

count_step : {X : Type 0} (p : X → Bool) (x : X) (xs : List X) → count_by p (x ∷ xs) ≡ one (p x) + count_by p xs
count_step p x xs = sum_by-cons (λ z. one (p z)) x xs

-- what passes and stands in a list counts
pub counted : {X : Type 0} (p : X → Bool) (xs : List X) (n : ℕ) (a : X) → slice_get xs n ≡ Some a → p a ≡ true → 1 ≤ count_by p xs
counted p [] n a e t = absurd cc
counted p (x ∷ xs) zero a e t =
    let same : x ≡ a = cc in
    let first : one (p x) ≡ 1 = ap one (ap p same ∙ t) in
    omega (arith, count_step p x xs, first)
counted p (x ∷ xs) (suc n) a e t = omega (arith, count_step p x xs, counted p xs n a e t)

-- where at most one passes, it stands at one place
pub alone : {X : Type 0} (p : X → Bool) (xs : List X) (n m : ℕ) (a b : X) → count_by p xs ≤ 1 → slice_get xs n ≡ Some a
    → slice_get xs m ≡ Some b → p a ≡ true → p b ≡ true → n ≡ m
alone p [] n m a b l e f t u = absurd cc
alone p (x ∷ xs) zero zero a b l e f t u = refl
alone p (x ∷ xs) zero (suc m) a b l e f t u =
    let same : x ≡ a = cc in
    let first : one (p x) ≡ 1 = ap one (ap p same ∙ t) in
    absurd (omega (arith, l, count_step p x xs, first, counted p xs m b f u))
alone p (x ∷ xs) (suc n) zero a b l e f t u =
    let same : x ≡ b = cc in
    let first : one (p x) ≡ 1 = ap one (ap p same ∙ u) in
    absurd (omega (arith, l, count_step p x xs, first, counted p xs n a e t))
alone p (x ∷ xs) (suc n) (suc m) a b l e f t u = ap suc (alone p xs n m a b (omega (arith, l, count_step p x xs)) e f t u)

-- where one counts, one passes
pub first_counted : {X : Type 0} (p : X → Bool) (xs : List X) → 1 ≤ count_by p xs → (n : ℕ) × (x : X) × (slice_get xs n ≡ Some x)
    × (p x ≡ true)
first_counted p [] l = absurd (omega arith)
first_counted {X} p (x ∷ xs) l = by_test (p x) refl (omega (arith, l, count_step p x xs)) (first_counted p xs)
  where
    by_test : (b : Bool) → p x ≡ b → 1 ≤ one (p x) + count_by p xs
        → (1 ≤ count_by p xs → (n : ℕ) × (y : X) × (slice_get xs n ≡ Some y) × (p y ≡ true))
        → (n : ℕ) × (y : X) × (slice_get (x ∷ xs) n ≡ Some y) × (p y ≡ true)
    by_test true t l ih = (0, x, refl, t)
    by_test false t l ih = let c : one (p x) ≡ 0 = ap one t in let k = ih (omega (arith, l, c)) in (suc k.0, k.1, k.2, k.3)
