-- The digits that are written of a number are a number without leading zeros, of this value.
use Rattle.cam_base.proofs.Common.{Bool, List, Some, [], and_parts, arith, cond, decimal, decimal_by_steps, decimal_digit, decimal_is_IsNumeral, digits_value, false, fits, is_decimal, is_digit, leb, list_all, nat_lt, nat_tests}
use Rattle.cam_base.proofs.Common.{number_value, refl, rules, suc, true, zero, ℕ, ◌%◌, ◌++◌, ◌+◌, ◌<◌, ◌==◌, ◌^◌, ◌∙◌, ◌∷◌, ◌≡◌}
use Rattle.std.proofs.Common.{◌&&◌, ◌||◌}

-- a digit from 1 to 9, and digits
is_long : List ℕ → Bool
is_long [] = false
is_long (b ∷ bs) = (leb 49 b && leb b 57) && list_all is_digit bs

all_push : (xs : List ℕ) (x : ℕ) → list_all is_digit xs ≡ true → is_digit x ≡ true → list_all is_digit (xs ++ x ∷ []) ≡ true
all_push [] x a b = rw b refl
all_push (y ∷ xs) x a b = let k = and_parts (is_digit y) (list_all is_digit xs) a in rw (k.0, all_push xs x k.1 b) refl

long_push : (xs : List ℕ) (x : ℕ) → is_long xs ≡ true → is_digit x ≡ true → is_long (xs ++ x ∷ []) ≡ true
unfolding is_long
long_push [] x a b = absurd cc
long_push (y ∷ xs) x a b = let k = and_parts (leb 49 y && leb y 57) (list_all is_digit xs) a in rw (k.0, all_push xs x k.1 b) refl

a_digit : (d : ℕ) → d < 10 → is_digit (48 + d) ≡ true
a_digit d q = grind (arith, nat_tests)

first_digit : (d : ℕ) → 0 < d → d < 10 → (leb 49 (48 + d) && leb (48 + d) 57) ≡ true
first_digit d p q = grind (arith, nat_tests)

decimal_long : (n : ℕ) → n < 2 ^ 64 → 0 < n → is_long (decimal n) ≡ true
unfolding is_long
decimal_long = decimal_by_steps (λ n ds. 0 < n → is_long ds ≡ true)
    (λ n small p. rw (first_digit n p small) refl)
    (λ n ds le ih p. long_push ds (48 + n % 10) (ih (omega arith)) (a_digit (n % 10) (omega arith)))

not_zero_first : (b : ℕ) → (leb 49 b && leb b 57) ≡ true → (b == 48) ≡ false
not_zero_first b h = grind (arith, nat_tests)

digit_first : (b : ℕ) → (leb 49 b && leb b 57) ≡ true → is_digit b ≡ true
digit_first b h = grind (arith, nat_tests)

long_digits : (ds : List ℕ) → is_long ds ≡ true → list_all is_digit ds ≡ true
unfolding is_long
long_digits [] h = absurd cc
long_digits (b ∷ ds) h = let k = and_parts (leb 49 b && leb b 57) (list_all is_digit ds) h in rw (digit_first b k.0, k.1) refl

long_decimal : (ds : List ℕ) → is_long ds ≡ true → is_decimal ds ≡ true
unfolding is_long
long_decimal [] h = absurd cc
long_decimal (b ∷ ds) h = let k = and_parts (leb 49 b && leb b 57) (list_all is_digit ds) h in
    rw (not_zero_first b k.0, digit_first b k.0, k.1) refl

pub fits_some : (b : Bool) (n m : ℕ) → b ≡ true → n ≡ m → m < 2 ^ 64 → fits b n ≡ Some m
fits_some b n m p q l = rw (p, q) (let e : nat_lt m (2 ^ 64) ≡ true = grind (arith, nat_tests) in rw e refl)

pick : {A : Type 0} (z w : Bool) (x y : A) → z ≡ false → cond (z && w) x y ≡ y
pick true w x y e = absurd cc
pick false w x y e = refl

long_value : (ds : List ℕ) (n : ℕ) → is_long ds ≡ true → digits_value 10 ds ≡ n → n < 2 ^ 64 → number_value ds ≡ Some n
unfolding is_long
long_value [] n e v l = absurd cc
long_value (b ∷ []) n e v l = search (rules, and_parts, leb, fits_some, not_zero_first, digit_first)
long_value (b ∷ c ∷ ds) n e v l = search (rules, and_parts, leb, pick, not_zero_first, fits_some, digit_first)

pub number_value-decimal : (n : ℕ) → n < 2 ^ 64 → number_value (decimal n) ≡ Some n
number_value-decimal zero l = rw (decimal_digit 0 (omega arith)) refl
number_value-decimal (suc n) l = long_value (decimal (suc n)) (suc n) (decimal_long (suc n) l (omega arith))
    (decimal_is_IsNumeral (suc n) l).1 l

pub is_decimal-decimal : (n : ℕ) → n < 2 ^ 64 → is_decimal (decimal n) ≡ true
is_decimal-decimal zero l = rw (decimal_digit 0 (omega arith)) refl
is_decimal-decimal (suc n) l = long_decimal (decimal (suc n)) (decimal_long (suc n) l (omega arith))

pub digits-decimal : (n : ℕ) → n < 2 ^ 64 → list_all is_digit (decimal n) ≡ true
digits-decimal zero l = rw (decimal_digit 0 (omega arith)) refl
digits-decimal (suc n) l = long_digits (decimal (suc n)) (decimal_long (suc n) l (omega arith))
