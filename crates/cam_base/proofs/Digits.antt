-- The digits, from the last to the first.
use Rattle.cam_base.proofs.Common.{List, [], ap, arith, drop, false, glyph, length, nat_lt, nat_tests, refl, slice_set, sub-one, suc, true, zero, ℕ, ◌%◌, ◌++◌, ◌+◌, ◌-◌, ◌/◌, ◌<◌, ◌∙◌, ◌∷◌, ◌≡◌, ◌≤◌}
use Rattle.cam_base.specs.Hex.{hex_digits}

pub hex_none : (n : ℕ) → hex_digits 0 n ≡ []
unfolding hex_digits
hex_none n = refl

pub hex_last : (room n : ℕ) → 0 < room → n < 16 → hex_digits room n ≡ glyph n ∷ []
unfolding hex_digits
hex_last zero n h l = absurd (omega arith)
hex_last (suc room) n h l = let t : nat_lt n 16 ≡ true = grind (arith, nat_tests) in rw t refl

pub hex_more : (room n : ℕ) → 0 < room → 16 ≤ n → hex_digits room n ≡ hex_digits (room - 1) (n / 16) ++ glyph (n % 16) ∷ []
unfolding hex_digits
hex_more zero n h l = absurd (omega arith)
hex_more (suc room) n h l = let t : nat_lt n 16 ≡ false = grind (arith, nat_tests) in rw (t, sub-one) refl

-- a digit that is put at a place
pub put_last : (bs : List ℕ) (at g : ℕ) → at < length bs → drop at (slice_set bs at g) ≡ g ∷ drop (at + 1) bs
put_last [] at g l = absurd (omega arith)
put_last (b ∷ bs) zero g l = refl
put_last (b ∷ bs) (suc at) g l = put_last bs at g (omega arith)
    ∙ ap (λ k. g ∷ drop k (b ∷ bs)) (let e : suc (at + 1) ≡ suc at + 1 = omega arith in e)

pub ruleset hex_cases = (hex_none, hex_last, hex_more)
