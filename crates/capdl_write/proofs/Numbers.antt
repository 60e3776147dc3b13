-- Numbers that are written are tokens without faults.
use Rattle.std.proofs.Common.{rules}
use Rattle.capdl_write.proofs.Common.{Bool, List, None, Some, [], and_parts, ap, arith, bytes_eq, bytes_eq-Decides, codes, cond, decimal, digits_fault, digits_kind, eqb-true, false, hex_text, is_decimal, is_digit, is_hexadecimal, is_letter}
use Rattle.capdl_write.proofs.Common.{is_word_byte, length, list_all, nat_tests, number_value, number_word, refl, run, sym, true, ℕ, ◌&&◌, ◌<◌, ◌==◌, ◌^◌, ◌||◌, ◌∙◌, ◌∷◌, ◌≡◌}
use Rattle.std.specs.Str.Parse.{digits_value}
use Rattle.cam_base.specs.Numbers.{fits}
use Rattle.cam_base.proofs.Decimals.{number_value-decimal}
use Rattle.cam_base.proofs.Values.{fits_true}
use Rattle.cam_base.proofs.Hexadecimals.{number_value-hex_text}
use Rattle.capdl_text.specs.declared.token.Kind.TheVariants as kinds
use Rattle.capdl_text.specs.TokenFaults.{fault_at}
use Rattle.capdl_text.specs.TokenKinds.{kind_of}
use Rattle.capdl_write.proofs.Laying.{run_all}

-- a run that is a number is one token
pub number_fine : (b : ℕ) (bs : List ℕ) (n : ℕ) → is_digit b ≡ true → number_value (b ∷ bs) ≡ Some n
    → bytes_eq (b ∷ bs) (codes "4k") ≡ false → (kind_of (b ∷ bs) ≡ Some (kinds.Number n)) × (fault_at (b ∷ bs) ≡ None)
unfolding kind_of fault_at
number_fine b bs n d v k =
    let l : is_letter b ≡ false = digit_no_letter b d in
    let kind : digits_kind (b ∷ bs) ≡ Some (kinds.Number n) = rw (k, v) refl in
    let found : fault_at (b ∷ bs) ≡ digits_fault (run is_word_byte (b ∷ bs)) = rw (l, d) refl in
    (rw (l, d) kind, found ∙ ap digits_fault (run_all (b ∷ bs) (number_word (b ∷ bs) n v)) ∙ rw kind refl)
  where
    digit_no_letter : (b : ℕ) → is_digit b ≡ true → is_letter b ≡ false
    digit_no_letter b d = grind (arith, nat_tests)

value_digit : (b : ℕ) (bs : List ℕ) (n : ℕ) → number_value (b ∷ bs) ≡ Some n → is_digit b ≡ true
value_digit b [] n e = search (rules, fits_true, eqb-true, and_parts)
value_digit b (x ∷ ds) n e = search (rules, eqb-true, and_parts, fits_true)

not_size : (ds : List ℕ) (n : ℕ) → number_value ds ≡ Some n → bytes_eq ds (codes "4k") ≡ false
not_size ds n v = search (rules, bytes_eq-Decides)

-- a number is one token
pub value_fine : (ds : List ℕ) (n : ℕ) → number_value ds ≡ Some n → (kind_of ds ≡ Some (kinds.Number n)) × (fault_at ds ≡ None)
value_fine [] n v = absurd cc
value_fine (b ∷ bs) n v = number_fine b bs n (value_digit b bs n v) v (not_size (b ∷ bs) n v)

pub decimal_fine : (n : ℕ) → n < 2 ^ 64 → (kind_of (decimal n) ≡ Some (kinds.Number n)) × (fault_at (decimal n) ≡ None)
decimal_fine n l = value_fine (decimal n) n (number_value-decimal n l)

pub hex_fine : (n : ℕ) → n < 2 ^ 64 → (kind_of (hex_text n) ≡ Some (kinds.Number n)) × (fault_at (hex_text n) ≡ None)
hex_fine n l = value_fine (hex_text n) n (number_value-hex_text n l)
