-- Sums over what is gathered.
use Rattle.spec_laws.proofs.Common.{IsIn, List, Some, [], ap, arith, flat_map, gather, inl, inr, length, length_append, map, mul-add, mul-suc, refl, slice_get, suc, sum, sum_by-cons, sym, ℕ, ◌*◌, ◌++◌, ◌+◌, ◌∙◌, ◌∷◌, ◌≡◌, ◌≤◌}

-- of what each element counts
abbrev pub total : {X : Type 0} → (X → ℕ) → List X → ℕ
total f [] = 0
total f (x ∷ xs) = f x + total f xs

-- where an element's place is known
abbrev pub totals : {X : Type 0} → (ℕ → X → ℕ) → List X → ℕ
totals f [] = 0
totals f (x ∷ xs) = f 0 x + totals (λ k y. f (suc k) y) xs

-- ---- of lists made of lists

pub total_append : {X : Type 0} (f : X → ℕ) (xs ys : List X) → total f (xs ++ ys) ≡ total f xs + total f ys
total_append f [] ys = omega arith
total_append f (x ∷ xs) ys = let ih = total_append f xs ys in omega (arith, ih)

pub total_gather : {X Y : Type 0} (g : Y → ℕ) (f : ℕ → X → List Y) (xs : List X)
    → total g (gather f xs) ≡ totals (λ k x. total g (f k x)) xs
total_gather g f [] = refl
total_gather {X} {Y} g f (x ∷ xs) =
    let rest : ℕ → X → List Y = λ k y. f (suc k) y in
    total_append g (f 0 x) (gather rest xs) ∙ ap (λ n. total g (f 0 x) + n) (total_gather g rest xs)

-- one thing of each element
pub total_ones : {X Y : Type 0} (g : Y → ℕ) (f : ℕ → X → Y) (xs : List X) → total g (gather (λ k x. f k x ∷ []) xs) ≡ totals
    (λ k x. g (f k x)) xs
total_ones g f [] = refl
total_ones {X} {Y} g f (x ∷ xs) = ap (λ n. g (f 0 x) + n) (total_ones g (λ k y. f (suc k) y) xs)

pub total_map : {X Y : Type 0} (g : Y → ℕ) (f : X → Y) (xs : List X) → total g (map f xs) ≡ total (λ x. g (f x)) xs
total_map g f [] = refl
total_map g f (x ∷ xs) = ap (λ n. g (f x) + n) (total_map g f xs)

-- ---- sums and lengths

pub sum_is : (xs : List ℕ) → sum xs ≡ total (λ n. n) xs
sum_is [] = refl
sum_is (x ∷ xs) = sum_by-cons (λ n. n) x xs ∙ ap (λ n. x + n) (sum_is xs)

pub sum_map : {X : Type 0} (f : X → ℕ) (xs : List X) → sum (map f xs) ≡ total f xs
sum_map f xs = sum_is (map f xs) ∙ total_map (λ n. n) f xs

pub sum_ones : {X : Type 0} (f : ℕ → X → ℕ) (xs : List X) → sum (gather (λ k x. f k x ∷ []) xs) ≡ totals f xs
sum_ones f xs = sum_is (gather (λ k x. f k x ∷ []) xs) ∙ total_ones (λ n. n) f xs

pub length_is : {X : Type 0} (xs : List X) → length xs ≡ total (λ x. 1) xs
length_is [] = refl
length_is (x ∷ xs) = let ih = length_is xs in omega (arith, ih)

pub length_gather : {X Y : Type 0} (f : ℕ → X → List Y) (xs : List X) → length (gather f xs) ≡ totals (λ k x. length (f k x)) xs
length_gather f [] = refl
length_gather {X} {Y} f (x ∷ xs) =
    let rest : ℕ → X → List Y = λ k y. f (suc k) y in
    let ih : length (gather rest xs) ≡ totals (λ k y. length (rest k y)) xs = length_gather rest xs in
    omega (arith, length_append (f 0 x) (gather rest xs), ih)

pub length_flat_map : {X Y : Type 0} (f : X → List Y) (xs : List X) → length (flat_map f xs) ≡ total (λ x. length (f x)) xs
length_flat_map f [] = refl
length_flat_map f (x ∷ xs) = let ih = length_flat_map f xs in let a = length_append (f x) (flat_map f xs) in omega (arith, a, ih)

-- ---- bounds

pub total_most : {X : Type 0} (f g : X → ℕ) (xs : List X) → ((x : X) → IsIn x xs → f x ≤ g x) → total f xs ≤ total g xs
total_most f g [] h = omega arith
total_most f g (x ∷ xs) h = let a = h x (inl refl) in let ih = total_most f g xs (λ y i. h y (inr i)) in omega (arith, a, ih)

pub totals_most : {X : Type 0} (f g : ℕ → X → ℕ) (xs : List X) → ((k : ℕ) (x : X) → slice_get xs k ≡ Some x → f k x ≤ g k x)
    → totals f xs ≤ totals g xs
totals_most f g [] h = omega arith
totals_most {X} f g (x ∷ xs) h =
    let ih : totals (λ k y. f (suc k) y) xs ≤ totals (λ k y. g (suc k) y) xs =
    totals_most (λ k y. f (suc k) y) (λ k y. g (suc k) y) xs (λ k y e. h (suc k) y e) in
    omega (arith, h 0 x refl, ih)

pub total_add : {X : Type 0} (f g : X → ℕ) (xs : List X) → total (λ x. f x + g x) xs ≡ total f xs + total g xs
total_add f g [] = refl
total_add f g (x ∷ xs) = let ih = total_add f g xs in omega (arith, ih)

pub totals_add : {X : Type 0} (f g : ℕ → X → ℕ) (xs : List X) → totals (λ k x. f k x + g k x) xs ≡ totals f xs + totals g xs
totals_add f g [] = refl
totals_add {X} f g (x ∷ xs) =
    let ih : totals (λ k y. f (suc k) y + g (suc k) y) xs ≡ totals (λ k y. f (suc k) y) xs + totals (λ k y. g (suc k) y) xs =
    totals_add (λ k y. f (suc k) y) (λ k y. g (suc k) y) xs in
    omega (arith, ih)

pub total_times : {X : Type 0} (c : ℕ) (f : X → ℕ) (xs : List X) → total (λ x. c * f x) xs ≡ c * total f xs
total_times c f [] = omega arith
total_times c f (x ∷ xs) = ap (λ n. c * f x + n) (total_times c f xs) ∙ sym (mul-add c (f x) (total f xs))

pub totals_times : {X : Type 0} (c : ℕ) (f : ℕ → X → ℕ) (xs : List X) → totals (λ k x. c * f k x) xs ≡ c * totals f xs
totals_times c f [] = omega arith
totals_times {X} c f (x ∷ xs) =
    ap (λ n. c * f 0 x + n) (totals_times c (λ k y. f (suc k) y) xs) ∙ sym (mul-add c (f 0 x) (totals (λ k y. f (suc k) y) xs))

swap : (a b : ℕ) → a + b ≡ b + a
swap a b = omega arith

pub totals_const : {X : Type 0} (c : ℕ) (xs : List X) → totals (λ k x. c) xs ≡ c * length xs
totals_const c [] = omega arith
totals_const c (x ∷ xs) = ap (λ n. c + n) (totals_const c xs) ∙ swap c (c * length xs) ∙ sym (mul-suc c (length xs))

-- at most so much of each element
pub totals_each : {X : Type 0} (f : ℕ → X → ℕ) (c : ℕ) (xs : List X) → ((k : ℕ) (x : X) → slice_get xs k ≡ Some x → f k x ≤ c)
    → totals f xs ≤ c * length xs
totals_each f c xs h = let a = totals_most f (λ k x. c) xs h in let b = totals_const c xs in omega (arith, a, b)

pub total_const : {X : Type 0} (c : ℕ) (xs : List X) → total (λ x. c) xs ≡ c * length xs
total_const c [] = omega arith
total_const c (x ∷ xs) = ap (λ n. c + n) (total_const c xs) ∙ swap c (c * length xs) ∙ sym (mul-suc c (length xs))

pub total_each : {X : Type 0} (f : X → ℕ) (c : ℕ) (xs : List X) → ((x : X) → IsIn x xs → f x ≤ c) → total f xs ≤ c * length xs
total_each f c xs h = let a = total_most f (λ x. c) xs h in let b = total_const c xs in omega (arith, a, b)

-- ---- in other ways

pub totals_same : {X : Type 0} (f g : ℕ → X → ℕ) (xs : List X) → ((k : ℕ) (x : X) → slice_get xs k ≡ Some x → f k x ≡ g k x)
    → totals f xs ≡ totals g xs
totals_same f g [] h = refl
totals_same f g (x ∷ xs) h = ap (λ n. n + totals (λ k y. f (suc k) y) xs) (h 0 x refl)
    ∙ ap (λ n. g 0 x + n) (totals_same (λ k y. f (suc k) y) (λ k y. g (suc k) y) xs (λ k y e. h (suc k) y e))

-- where places don't matter
pub totals_flat : {X : Type 0} (f : X → ℕ) (xs : List X) → totals (λ k x. f x) xs ≡ total f xs
totals_flat f [] = refl
totals_flat f (x ∷ xs) = ap (λ n. f x + n) (totals_flat f xs)

-- what one of them counts
pub total_one : {X : Type 0} (f : X → ℕ) (xs : List X) (x : X) → IsIn x xs → f x ≤ total f xs
total_one f [] x i = absurd i
total_one f (y ∷ ys) x (inl e) = let s = ap f e in omega (arith, s)
total_one f (y ∷ ys) x (inr i) = let ih = total_one f ys x i in omega (arith, ih)

-- sums of sums, the other way round
pub totals_swap : {X Y : Type 0} (f : ℕ → X → Y → ℕ) (xs : List X) (ys : List Y)
    → totals (λ k x. total (λ y. f k x y) ys) xs ≡ total (λ y. totals (λ k x. f k x y) xs) ys
totals_swap f xs [] = totals_const 0 xs ∙ none (length xs) where
  none : (n : ℕ) → 0 * n ≡ 0
  none n = omega arith
totals_swap {X} {Y} f xs (y ∷ ys) = totals_add (λ k x. f k x y) (λ k x. total (λ z. f k x z) ys) xs
    ∙ ap (λ n. totals (λ k x. f k x y) xs + n) (totals_swap f xs ys)
