-- The row of a table that has a word is the keyword that the word is.
use Rattle.adl_lexer.proofs.Common.{All-cons, All-nil, Bool, Contains, Contains-append_right, IsRowOf, Keyword, List, None, Some, [], ap, bytes_eq, bytes_eq-Decides, cases_Bool, false, inl, inr, keyword_of}
use Rattle.adl_lexer.proofs.Common.{list_any, rules, spelling, sym, true, true_is_not_false, ℕ, ◌||◌, ◌∙◌, ◌∷◌, ◌≡◌, ◌≢◌}
use Rattle.adl_lexer.proofs.KeywordWords.{is_found, keyword_is, no_keyword}

abbrev has_word : List ℕ → Keyword → Bool
has_word word k = bytes_eq (spelling k) word

abbrev other_word : List ℕ → Keyword → Type 0
other_word word k = word ≢ spelling k

-- the keyword of a word stands in a row where a row has the word
stands : (rows : List Keyword) (word : List ℕ) (k : Keyword) → keyword_of word ≡ Some k → list_any (has_word word) rows ≡ true
    → Contains rows k
stands [] word k e h = absurd cc
stands (j ∷ rows) word k e h = elim (cases_Bool (has_word word j)) [
  | inl own ↦ search (rules, is_found)
  | inr other ↦
      Contains-append_right (j ∷ []) rows k (stands rows word k e (sym (ap (λ b. b || list_any (has_word word) rows) other) ∙ h))
]

pub is_row : (rows : List Keyword) (word : List ℕ) (k : Keyword) → keyword_of word ≡ Some k
    → list_any (λ j. bytes_eq (spelling j) word) rows ≡ true → IsRowOf rows word (Some k)
is_row rows word k e h = (stands rows word k e h, (keyword_is word k).0 e)

-- no row has the word
pub is_no_row : (rows : List Keyword) (word : List ℕ) → list_any (λ j. bytes_eq (spelling j) word) rows ≡ false
    → IsRowOf rows word None
is_no_row [] word h = All-nil (other_word word)
is_no_row (j ∷ rows) word h = elim (cases_Bool (has_word word j)) [
  | inl own ↦ true_is_not_false (list_any (has_word word) (j ∷ rows)) (ap (λ b. b || list_any (has_word word) rows) own) h
  | inr other ↦
      All-cons (other_word word) j rows
      (λ w. true_is_not_false (has_word word j) ((bytes_eq-Decides (spelling j) word).1 (sym w)) other)
      (is_no_row rows word (sym (ap (λ b. b || list_any (has_word word) rows) other) ∙ h))
]

-- a word that is no keyword stands in no row
pub is_no_keyword : (rows : List Keyword) (word : List ℕ) → keyword_of word ≡ None → IsRowOf rows word None
is_no_keyword [] word e = All-nil (other_word word)
is_no_keyword (j ∷ rows) word e = All-cons (other_word word) j rows ((no_keyword word).0 e j) (is_no_keyword rows word e)
