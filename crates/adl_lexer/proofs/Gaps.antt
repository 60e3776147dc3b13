-- Blanks and comments.
use Rattle.adl_lexer.proofs.Common.{Bool, Code, IsGap, List, None, Some, [], after_comment, after_line, among, arith, blanks, cases_Bool, class_of, cond, eqb-true, false, if_false, if_true, inl, inr, length, more, none, none_is_not}
use Rattle.adl_lexer.proofs.Common.{refl, rules, same_Some, slash, true, ℕ, ◌<◌, ◌==◌, ◌∙◌, ◌∷◌, ◌≡◌, ◌≤◌}
use Rattle.adl_lexer.specs.Gaps.{one_gap}
use Rattle.adl_lexer.specs.LexFaults.{fault_at}
use Rattle.adl_lexer.proofs.Classes.{blank_cases}
use Rattle.adl_lexer.proofs.Exactness.{token_first}
use Rattle.cam_base.proofs.Comments.{after_close_le}

-- a gap begins with no byte of a token
pub gap_class : (b : ℕ) (cs ds : List ℕ) → one_gap (b ∷ cs) ≡ Some ds → among token_first (class_of b) ≡ false
unfolding one_gap
gap_class b cs ds e = search (rules, cases_Bool, blank_cases, eqb-true, none_is_not, if_false)

after_line_le : (bs : List ℕ) → length (after_line bs) ≤ length bs
after_line_le [] = omega arith
after_line_le (b ∷ bs) = elim (cases_Bool (b == 10)) [
  | inl h ↦ rw h (omega arith)
  | inr h ↦ let le = after_line_le bs in
      rw h (omega arith)
]

after_comment_le : (bs cs : List ℕ) → after_comment bs ≡ Some cs → length cs ≤ length bs
after_comment_le [] cs e = none_is_not cs e
after_comment_le (b ∷ bs) cs e =
    search (rules, cases_Bool, same_Some, if_true, after_line_le, if_false, after_close_le, none_is_not)

-- a gap has bytes
pub gap_eats : (bs cs : List ℕ) → one_gap bs ≡ Some cs → length cs < length bs
unfolding one_gap
gap_eats [] cs e = none_is_not cs e
gap_eats (b ∷ bs) cs e = go (among blanks (class_of b)) (class_of b == slash) e
  where
    go : (is_blank is_slash : Bool) → cond is_blank (Some bs) (cond is_slash (after_comment bs) None) ≡ Some cs
        → length cs < length (b ∷ bs)
    go true is_slash q = let same = same_Some bs cs q in rw (← same) (omega arith)
    go false true q = let le = after_comment_le bs cs q in omega arith
    go false false q = none_is_not cs q

pub gap_le : (bs rest : List ℕ) → IsGap bs rest → length rest ≤ length bs
gap_le bs rest none = omega arith
gap_le bs rest (more {cs = cs} e g) = let a = gap_eats bs cs e in let b = gap_le cs rest g in omega arith

none_fault : {C : Type 0} (f : Code × List ℕ) → None ≡ Some f → C
none_fault f e = absurd cc

-- where a fault stands, no gap does
pub fault_no_gap : (bs cs : List ℕ) (f : Code × List ℕ) → fault_at bs ≡ Some f → one_gap bs ≡ Some cs → ⊥
unfolding fault_at one_gap
fault_no_gap [] cs f h e = none_is_not cs e
fault_no_gap (b ∷ bs) cs f h e = search (rules, cases_Bool, blank_cases, none_fault, eqb-true, none_is_not, if_false)
