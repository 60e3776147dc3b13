-- What a search for one byte passes over in a comment.
use Rattle.adl_lexer.proofs.Common.{List, None, Option, Some, [], add-one, after_close, after_first, after_line, after_slash, ap, arith, cases_Bool, drop, if◌then◌else◌, inl, inr, length, refl, rules, suc, sym, zero, ℕ, ◌+◌, ◌<◌, ◌==◌, ◌∙◌, ◌∷◌, ◌≡◌}
use Rattle.memchr.specs.Find.{IsFirstByte, Nowhere, Passes, is_byte}

-- a byte that is nowhere has nothing behind it
pub first_absent : (wanted : ℕ) (bs : List ℕ) → IsFirstByte (is_byte wanted) bs None → after_first wanted bs ≡ None
first_absent wanted [] never = refl
first_absent wanted (b ∷ bs) never = elim (cases_Bool (b == wanted)) [
  | inl is ↦ absurd (never 0 (omega arith) (omega arith) is)
  | inr other ↦ rw other (first_absent wanted bs (λ k low high. never (suc k) (omega arith) (omega arith)))
]

first_from : (wanted : ℕ) (bs : List ℕ) (k : ℕ) → k < length bs → Passes (is_byte wanted) bs k
    → Nowhere (Passes (is_byte wanted) bs) 0 k
    → after_first wanted bs ≡ Some (drop (suc k) bs)
first_from wanted [] k high is before = absurd (omega arith)
first_from wanted (b ∷ bs) zero high is before = rw is refl
first_from wanted (b ∷ bs) (suc k) high is before = elim (cases_Bool (b == wanted)) [
  | inl found ↦ absurd (before 0 (omega arith) (omega arith) found)
  | inr other ↦ rw other (first_from wanted bs k (omega arith) is (λ j low below. before (suc j) (omega arith) (omega arith)))
]

-- what is behind a byte's first place
pub first_found : (wanted : ℕ) (bs : List ℕ) (k : ℕ) → IsFirstByte (is_byte wanted) bs (Some k)
    → after_first wanted bs ≡ Some (drop (k + 1) bs)
first_found wanted bs k first = first_from wanted bs k first.0.high first.1 first.0.before ∙ ap (λ n. Some (drop n bs))
    (sym (add-one k))

-- it is less than the whole
pub first_less : (wanted : ℕ) (bs cs : List ℕ) → after_first wanted bs ≡ Some cs → length cs < length bs
first_less wanted [] cs e = cc
first_less wanted (b ∷ bs) cs e = elim (cases_Bool (b == wanted)) [
  | inl is ↦ let same : Some bs ≡ Some cs = (rw is at e) in let one : bs ≡ cs = cc in rw (← one) (omega arith)
  | inr other ↦ let less = first_less wanted bs cs (rw other at e) in omega arith
]

-- a line without a line feed is the last
pub line_last : (bs : List ℕ) → after_first 10 bs ≡ None → after_line bs ≡ []
line_last [] e = refl
line_last (b ∷ bs) e = elim (cases_Bool (b == 10)) [
  | inl is ↦ let same : Some bs ≡ None = (rw is at e) in absurd cc
  | inr other ↦ rw other (line_last bs (rw other at e))
]

pub line_ends : (bs cs : List ℕ) → after_first 10 bs ≡ Some cs → after_line bs ≡ cs
line_ends [] cs e = cc
line_ends (b ∷ bs) cs e = elim (cases_Bool (b == 10)) [
  | inl is ↦ let same : Some bs ≡ Some cs = (rw is at e) in rw is cc
  | inr other ↦ rw other (line_ends bs cs (rw other at e))
]

-- without a star no comment is closed
pub close_absent : (bs : List ℕ) → after_first 42 bs ≡ None → after_close bs ≡ None
close_absent [] e = refl
close_absent (b ∷ []) e = refl
close_absent (b ∷ c ∷ bs) e = elim (cases_Bool (b == 42)) [
  | inl is ↦ let same : Some (c ∷ bs) ≡ None = (rw is at e) in absurd cc
  | inr other ↦ rw other (close_absent (c ∷ bs) (rw other at e))
]

-- what is behind a comment, by what is behind its next star
abbrev behind_star : List ℕ → Option (List ℕ)
behind_star [] = None
behind_star (b ∷ bs) = if b == 47 then Some bs else after_close (b ∷ bs)

close_found : (bs cs : List ℕ) → after_first 42 bs ≡ Some cs → after_close bs ≡ behind_star cs
close_found [] cs e = cc
close_found (a ∷ []) cs e = search (rules, cases_Bool)
close_found (a ∷ c ∷ bs) cs e = elim (cases_Bool (a == 42)) [
  | inl is ↦ let same : Some (c ∷ bs) ≡ Some cs = (rw is at e) in let one : (c ∷ bs) ≡ cs = cc in rw is (ap behind_star one)
  | inr other ↦ rw other (close_found (c ∷ bs) cs (rw other at e))
]

slash_closes : (cs ds : List ℕ) → after_slash cs ≡ Some ds → behind_star cs ≡ Some ds
slash_closes [] ds e = cc
slash_closes (b ∷ bs) ds e = search (rules, cases_Bool)

other_goes_on : (cs : List ℕ) → after_slash cs ≡ None → behind_star cs ≡ after_close cs
other_goes_on [] e = refl
other_goes_on (b ∷ bs) e = search (rules, cases_Bool)

-- a slash behind the next star closes a comment
pub closes : (bs cs ds : List ℕ) → after_first 42 bs ≡ Some cs → after_slash cs ≡ Some ds → after_close bs ≡ Some ds
closes bs cs ds e f = close_found bs cs e ∙ slash_closes cs ds f

-- another byte doesn't
pub goes_on : (bs cs : List ℕ) → after_first 42 bs ≡ Some cs → after_slash cs ≡ None → after_close bs ≡ after_close cs
goes_on bs cs e f = close_found bs cs e ∙ other_goes_on cs f

pub ruleset comment_ends = (close_absent, closes, goes_on, first_less)
