-- The text that is written of a number in hexadecimal is a number, of this value.
use Rattle.cam_base.proofs.Common.{Bool, List, Some, [], and_parts, arith, cond, digit_value, digits_value, digits_value_push, false, glyph, is_hex_digit, is_hexadecimal, list_all, lt-ltb, ltb-true, number_value, refl, suc, true, zero, ℕ, ◌*◌, ◌++◌}
use Rattle.cam_base.proofs.Common.{◌+◌, ◌<◌, ◌^◌, ◌∙◌, ◌∷◌, ◌≡◌}
use Rattle.std.specs.Prelude.{◌/◌, ◌%◌, nat_lt}
use Rattle.std.proofs.Math.Nat.{pow-suc}
use Rattle.cam_base.specs.Hex.{hex_digits, hex_text}
use Rattle.cam_base.proofs.Decimals.{fits_some}

glyph_is : (d : ℕ) → d < 16 → (is_hex_digit (glyph d) ≡ true) × (digit_value (glyph d) ≡ d)
glyph_is zero l = (refl, refl)
glyph_is (suc zero) l = (refl, refl)
glyph_is (suc (suc zero)) l = (refl, refl)
glyph_is (suc (suc (suc zero))) l = (refl, refl)
glyph_is (suc (suc (suc (suc zero)))) l = (refl, refl)
glyph_is (suc (suc (suc (suc (suc zero))))) l = (refl, refl)
glyph_is (suc (suc (suc (suc (suc (suc zero)))))) l = (refl, refl)
glyph_is (suc (suc (suc (suc (suc (suc (suc zero))))))) l = (refl, refl)
glyph_is (suc (suc (suc (suc (suc (suc (suc (suc zero)))))))) l = (refl, refl)
glyph_is (suc (suc (suc (suc (suc (suc (suc (suc (suc zero))))))))) l = (refl, refl)
glyph_is (suc (suc (suc (suc (suc (suc (suc (suc (suc (suc zero)))))))))) l = (refl, refl)
glyph_is (suc (suc (suc (suc (suc (suc (suc (suc (suc (suc (suc zero))))))))))) l = (refl, refl)
glyph_is (suc (suc (suc (suc (suc (suc (suc (suc (suc (suc (suc (suc zero)))))))))))) l = (refl, refl)
glyph_is (suc (suc (suc (suc (suc (suc (suc (suc (suc (suc (suc (suc (suc zero))))))))))))) l = (refl, refl)
glyph_is (suc (suc (suc (suc (suc (suc (suc (suc (suc (suc (suc (suc (suc (suc zero)))))))))))))) l = (refl, refl)
glyph_is (suc (suc (suc (suc (suc (suc (suc (suc (suc (suc (suc (suc (suc (suc (suc zero))))))))))))))) l = (refl, refl)
glyph_is (suc (suc (suc (suc (suc (suc (suc (suc (suc (suc (suc (suc (suc (suc (suc (suc d)))))))))))))))) l =
    absurd (omega (arith, l))

hex_push : (xs : List ℕ) (x : ℕ) → is_hexadecimal xs ≡ true → is_hex_digit x ≡ true → is_hexadecimal (xs ++ x ∷ []) ≡ true
hex_push [] x a b = absurd cc
hex_push (y ∷ xs) x a b = let k = and_parts (is_hex_digit y) (list_all is_hex_digit xs) a in rw (k.0, go xs k.1) refl
  where
    go : (xs : List ℕ) → list_all is_hex_digit xs ≡ true → list_all is_hex_digit (xs ++ x ∷ []) ≡ true
    go [] a = rw b refl
    go (y ∷ xs) a = let k = and_parts (is_hex_digit y) (list_all is_hex_digit xs) a in rw (k.0, go xs k.1) refl

-- what the digits are, one by one from the last
push_is : (n : ℕ) (ds : List ℕ) → is_hexadecimal ds ≡ true → digits_value 16 ds ≡ n / 16
    → (is_hexadecimal (ds ++ glyph (n % 16) ∷ []) ≡ true) × (digits_value 16 (ds ++ glyph (n % 16) ∷ []) ≡ n)
push_is n ds h v = grind (arith, glyph_is, hex_push, digits_value_push)

one_is : (n : ℕ) → nat_lt n 16 ≡ true → (is_hexadecimal (glyph n ∷ []) ≡ true) × (digits_value 16 (glyph n ∷ []) ≡ n)
one_is n e = grind (arith, glyph_is, ltb-true, digits_value_push)

-- the digits of a number that has no more than so many
hex_is : (room n : ℕ) → n < 16 ^ suc room → (is_hexadecimal (hex_digits (suc room) n) ≡ true)
    × (digits_value 16 (hex_digits (suc room) n) ≡ n)
unfolding hex_digits
hex_is zero n l = let p : 16 ^ suc zero ≡ 16 = refl in let e : nat_lt n 16 ≡ true = lt-ltb n 16 (omega (arith, l, p)) in
    rw e (one_is n e)
hex_is (suc room) n l = by_test (nat_lt n 16) refl (hex_is room (n / 16) (omega (arith, l, pow-suc 16 (suc room))))
  where
    by_test : (b : Bool) → nat_lt n 16 ≡ b → (is_hexadecimal (hex_digits (suc room) (n / 16)) ≡ true)
        × (digits_value 16 (hex_digits (suc room) (n / 16)) ≡ n / 16)
        → (is_hexadecimal (cond b (glyph n ∷ []) (hex_digits (suc room) (n / 16) ++ glyph (n % 16) ∷ [])) ≡ true)
        × (digits_value 16 (cond b (glyph n ∷ []) (hex_digits (suc room) (n / 16) ++ glyph (n % 16) ∷ [])) ≡ n)
    by_test true e ih = one_is n e
    by_test false e ih = push_is n (hex_digits (suc room) (n / 16)) ih.0 ih.1

pub number_value-hex_text : (n : ℕ) → n < 2 ^ 64 → number_value (hex_text n) ≡ Some n
unfolding hex_text
number_value-hex_text n l = let r = hex_is 15 n l in
    fits_some (is_hexadecimal (hex_digits 16 n)) (digits_value 16 (hex_digits 16 n)) n r.0 r.1 l

pub is_hexadecimal-hex_digits : (n : ℕ) → n < 2 ^ 64 → is_hexadecimal (hex_digits 16 n) ≡ true
is_hexadecimal-hex_digits n l = (hex_is 15 n l).0
