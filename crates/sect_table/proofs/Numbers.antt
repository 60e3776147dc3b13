-- Hexadecimal texts are words.
use Rattle.sect_table.proofs.Common.{List, [], and_parts, arith, is_hex_digit, is_hexadecimal, is_hexadecimal-hex_digits, list_all, nat_tests, refl, true, ℕ, ◌<◌, ◌^◌, ◌∷◌, ◌≡◌}
use Rattle.cam_base.specs.Hex.{hex_digits, hex_text}
use Rattle.sect_table.proofs.Words.{Plain, is_clean}

clean_digit : (b : ℕ) → is_hex_digit b ≡ true → is_clean b ≡ true
clean_digit b h = grind (arith, nat_tests)

clean_digits : (bs : List ℕ) → list_all is_hex_digit bs ≡ true → list_all is_clean bs ≡ true
clean_digits [] h = refl
clean_digits (b ∷ bs) h = let p = and_parts (is_hex_digit b) (list_all is_hex_digit bs) h in
    rw (clean_digit b p.0, clean_digits bs p.1) refl

clean_hex : (bs : List ℕ) → is_hexadecimal bs ≡ true → list_all is_clean bs ≡ true
clean_hex [] h = refl
clean_hex (b ∷ bs) h = clean_digits (b ∷ bs) h

pub hex_plain : (n : ℕ) → n < 2 ^ 64 → Plain (hex_text n)
unfolding hex_text
hex_plain n l = record { some = omega arith; clean = clean_hex (hex_digits 16 n) (is_hexadecimal-hex_digits n l) }
