-- The values of digits, and which of them fit 64 bits.
use Rattle.cam_base.proofs.Common.{Bool, List, None, Some, [], arith, digit_value, digits_value_after, false, fits, nat_lt, nat_tests, refl, sym, true, ℕ, ◌*◌, ◌+◌, ◌<◌, ◌^◌, ◌∷◌, ◌≡◌, ◌≤◌}

pub fits_true : (b : Bool) (n m : ℕ) → fits b n ≡ Some m → b ≡ true
fits_true true n m e = refl
fits_true false n m e = absurd cc

pub fits_below : (n : ℕ) → n < 2 ^ 64 → fits true n ≡ Some n
fits_below n h = let t : nat_lt n (2 ^ 64) ≡ true = grind (arith, nat_tests) in rw t refl

pub fits_above : (n : ℕ) → 2 ^ 64 ≤ n → fits true n ≡ None
fits_above n h = let t : nat_lt n (2 ^ 64) ≡ false = grind (arith, nat_tests) in rw t refl

grows : (base n d : ℕ) → 0 < base → n ≤ n * base + d
grows base n d h = grind (arith, nat_tests)

-- more digits write no lesser number
pub digits_value_after_at_least : (base n : ℕ) (ds : List ℕ) → 0 < base → n ≤ digits_value_after base n ds
digits_value_after_at_least base n [] h = omega arith
digits_value_after_at_least base n (d ∷ ds) h =
    let one = grows base n (digit_value d) h in
    let more = digits_value_after_at_least base (n * base + digit_value d) ds h in
    omega arith

pub ruleset fits_cases = (fits_below, fits_above)

pub fits_none : (n m : ℕ) → n ≤ m → fits true n ≡ None → fits true m ≡ None
fits_none n m h e = go (nat_lt n (2 ^ 64)) refl where
  go : (b : Bool) → nat_lt n (2 ^ 64) ≡ b → fits true m ≡ None
  go true t = let s : fits true n ≡ Some n = rw t refl in absurd cc
  go false t = let a : 2 ^ 64 ≤ n = grind (arith, nat_tests) in fits_above m (omega arith)

pub fits_whole : (n m : ℕ) → n < 2 ^ 64 → n ≡ m → Some n ≡ fits true m
fits_whole n m h e = rw (← e) (sym (fits_below n h))
