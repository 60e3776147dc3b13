-- Numbers of the language: `0`, or a digit 1 to 9 and digits, or `0x` or `0X` and one or more hexadecimal digits; up to 2^64 - 1.
use Rattle.std.specs.Prelude.{ℕ, ◌^◌, nat_lt, ◌==◌, Bool, false, ◌&&◌, ◌||◌, leb, if◌then◌else◌, List, [], ◌∷◌, length, Option, Some, None}
use Rattle.std.specs.List.{list_all}
use Rattle.std.specs.Str.Parse.{digits_value}

abbrev pub is_digit : ℕ → Bool
is_digit b = leb 48 b && leb b 57

abbrev pub is_hex_digit : ℕ → Bool
is_hex_digit b = is_digit b || ((leb 97 b && leb b 102) || (leb 65 b && leb b 70))

abbrev pub is_decimal : List ℕ → Bool
is_decimal [] = false
is_decimal (b ∷ bs) = if b == 48 then length bs == 0 else is_digit b && list_all is_digit bs

-- whether the bytes behind `0x` or `0X` are one or more hexadecimal digits
abbrev pub is_hexadecimal : List ℕ → Bool
is_hexadecimal [] = false
is_hexadecimal (d ∷ ds) = is_hex_digit d && list_all is_hex_digit ds

abbrev pub fits : Bool → ℕ → Option ℕ
fits b n = if b && nat_lt n (2 ^ 64) then Some n else None

-- the value of a number
abbrev pub number_value : List ℕ → Option ℕ
number_value (z ∷ x ∷ ds) = if z == 48 && (x == 120 || x == 88) then fits (is_hexadecimal ds) (digits_value 16 ds) else fits
    (is_decimal (z ∷ x ∷ ds)) (digits_value 10 (z ∷ x ∷ ds))
number_value bs = fits (is_decimal bs) (digits_value 10 bs)
