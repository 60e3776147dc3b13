-- Where a gap stands, no token and no fault does.
use Rattle.std.proofs.Common.{rules}
use Rattle.capdl_text.proofs.Common.{Bool, Found, Kind, List, None, Option, Some, TextCode, [], after_close, after_dash, after_line, after_slash, arith, cases_Bool, cond, false, inl, inr, is_blank, is_digit, is_end, is_letter, is_star, length}
use Rattle.capdl_text.proofs.Common.{mark_fault, nat_tests, none_is_not, refl, same_Some, sym, true, unless, ℕ, ◌<◌, ◌==◌, ◌||◌, ◌∙◌, ◌∷◌, ◌≡◌, ◌≤◌}
use Rattle.capdl_text.specs.Gaps.{one_gap}
use Rattle.capdl_text.specs.TokenFaults.{fault_at}
use Rattle.capdl_text.specs.TokenKinds.{kind_of, mark_of}
use Rattle.cam_base.proofs.Comments.{after_close_le}

-- what the first byte of a gap is
pub is_gap_byte : ℕ → Bool
is_gap_byte b = is_blank b || (b == 47 || b == 45)

pub gap_byte : (b : ℕ) (bs cs : List ℕ) → one_gap (b ∷ bs) ≡ Some cs → is_gap_byte b ≡ true
unfolding one_gap is_gap_byte
gap_byte b bs cs e = search (rules, none_is_not)

not_letter : (b : ℕ) → is_gap_byte b ≡ true → is_letter b ≡ false
unfolding is_gap_byte
not_letter b h = grind (arith, nat_tests)

not_digit : (b : ℕ) → is_gap_byte b ≡ true → is_digit b ≡ false
unfolding is_gap_byte
not_digit b h = grind (arith, nat_tests)

not_quote : (b : ℕ) → is_gap_byte b ≡ true → (b == 34) ≡ false
unfolding is_gap_byte
not_quote b h = grind (arith, nat_tests)

not_mark : (b : ℕ) → is_gap_byte b ≡ true → mark_of b ≡ None
unfolding is_gap_byte mark_of
not_mark b h = grind (arith, nat_tests)

-- a token begins with no byte of a gap
pub token_no_gap_byte : (b : ℕ) (text : List ℕ) (k : Kind) → kind_of (b ∷ text) ≡ Some k → is_gap_byte b ≡ true → ⊥
unfolding kind_of
token_no_gap_byte b text k e h = search (rules, not_letter, not_digit, not_quote, not_mark, none_is_not)

after_line_le : (bs : List ℕ) → length (after_line bs) ≤ length bs
after_line_le [] = omega arith
after_line_le (b ∷ bs) = elim (cases_Bool (b == 10)) [
  | inl h ↦ rw h (omega arith)
  | inr h ↦ let le = after_line_le bs in
      rw h (omega arith)
]

after_slash_le : (bs cs : List ℕ) → after_slash bs ≡ Some cs → length cs ≤ length bs
after_slash_le [] cs e = none_is_not cs e
after_slash_le (b ∷ bs) cs e = search (rules, same_Some, after_line_le, after_close_le, none_is_not)

after_dash_le : (bs cs : List ℕ) → after_dash bs ≡ Some cs → length cs ≤ length bs
after_dash_le [] cs e = none_is_not cs e
after_dash_le (b ∷ bs) cs e = search (rules, same_Some, after_line_le, none_is_not)

-- a gap has bytes
pub gap_eats : (bs cs : List ℕ) → one_gap bs ≡ Some cs → length cs < length bs
unfolding one_gap
gap_eats [] cs e = none_is_not cs e
gap_eats (b ∷ bs) cs e = search (rules, same_Some, after_slash_le, after_dash_le, none_is_not)

-- where a fault stands, no gap does
pub fault_no_gap : (bs cs : List ℕ) (f : TextCode × List ℕ) → fault_at bs ≡ Some f → one_gap bs ≡ Some cs → ⊥
unfolding fault_at one_gap
fault_no_gap [] cs f h e = none_is_not cs e
fault_no_gap (b ∷ bs) cs f h e =
    let g = gap_byte b bs cs e in
    let p : fault_at (b ∷ bs) ≡ cond (is_blank b) None
    (cond (b == 47) (unless (after_slash bs) (cond (is_star bs) (b ∷ bs) (b ∷ [])))
    (cond (b == 45) (unless (after_dash bs) (b ∷ [])) (mark_fault b))) =
    rw (not_letter b g, not_digit b g, not_quote b g) refl in
    go (is_blank b) (b == 47) (b == 45) (after_slash bs) (after_dash bs) (cond (is_star bs) (b ∷ bs) (b ∷ [])) (mark_fault b)
    (sym p ∙ h) e
  where
    go : (x y z : Bool) (s d : Option (List ℕ)) (t : List ℕ) (m : Found)
        → cond x None (cond y (unless s t) (cond z (unless d (b ∷ [])) m)) ≡ Some f
        → cond x (Some bs) (cond y s (cond z d None)) ≡ Some cs → ⊥
    go true y z s d t m p q = none_is_not f p
    go false true z None d t m p q = none_is_not cs q
    go false true z (Some r) d t m p q = none_is_not f p
    go false false true s None t m p q = none_is_not cs q
    go false false true s (Some r) t m p q = none_is_not f p
    go false false false s d t m p q = none_is_not cs q
