-- Hexadecimal text: `0x` and lower-case digits without leading zeros; 0 is `0x0`.
use Rattle.std.specs.Prelude.{ℕ, zero, suc, ◌+◌, ◌/◌, ◌%◌, nat_lt, cond, List, [], ◌∷◌, ◌++◌, codes}

abbrev pub glyph : ℕ → ℕ
glyph d = cond (nat_lt d 10) (48 + d) (87 + d)

-- the digits of a number that has no more than so many
unfoldable pub hex_digits : ℕ → ℕ → List ℕ
hex_digits zero n = []
hex_digits (suc room) n = cond (nat_lt n 16) (glyph n ∷ []) (hex_digits room (n / 16) ++ glyph (n % 16) ∷ [])

-- the text of a number of 64 bits
unfoldable pub hex_text : ℕ → List ℕ
hex_text n = codes "0x" ++ hex_digits 16 n
