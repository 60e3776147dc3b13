-- How long gathered lists are, and what stands in them.
use Rattle.spec_laws.proofs.Common.{List, Some, [], arith, gather, length, length_append, option_map, refl, slice_get, suc, sum, sum_by-cons, zero, ℕ, ◌*◌, ◌∷◌, ◌≡◌, ◌≤◌}

-- what is gathered, where each element gives at most so many
pub gather_most : {X Y : Type 0} (f : ℕ → X → List Y) (xs : List X) → ((k : ℕ) (x : X) → slice_get xs k ≡ Some x
    → length (f k x) ≤ 262144) → length (gather f xs) ≤ 262144 * length xs
gather_most f [] h = omega arith
gather_most f (x ∷ xs) h =
    let ih = gather_most (λ n z. f (suc n) z) xs (λ k z e. h (suc k) z e) in
    omega (arith, ih, length_append (f 0 x) (gather (λ n z. f (suc n) z) xs), h 0 x refl)

-- one thing for each element, by its place
pub ones_at : {X Y : Type 0} (f : ℕ → X → Y) (xs : List X) (k : ℕ) → slice_get (gather (λ n x. f n x ∷ []) xs) k ≡ option_map
    (f k) (slice_get xs k)
ones_at f (x ∷ xs) (suc k) = ones_at (λ n z. f (suc n) z) xs k
ones_at f _ _ = refl

pub part_of_sum : {X : Type 0} (f : ℕ → X → ℕ) (xs : List X) (k : ℕ) (x : X) → slice_get xs k ≡ Some x
    → f k x ≤ sum (gather (λ n z. f n z ∷ []) xs)
part_of_sum f [] k x e = cc
part_of_sum {X} f (y ∷ xs) zero x e = by_same y e where
  by_same : (y : X) → Some y ≡ Some x → f 0 x ≤ sum (f 0 y ∷ gather (λ n z. f (suc n) z ∷ []) xs)
  by_same y e =
      let same : f 0 x ≡ f 0 y = cc in
      omega (arith, same, sum_by-cons (λ (n : ℕ). n) (f 0 y) (gather (λ n z. f (suc n) z ∷ []) xs))
part_of_sum f (y ∷ xs) (suc k) x e =
    let ih = part_of_sum (λ n z. f (suc n) z) xs k x e in
    omega (arith, ih, sum_by-cons (λ (n : ℕ). n) (f 0 y) (gather (λ n z. f (suc n) z ∷ []) xs))
