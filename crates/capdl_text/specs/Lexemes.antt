-- Tokens as readers keep them: without the value of a number, which its bytes have.
use Rattle.std.specs.Prelude.{ℕ, List, map, unwrap_or, Result, Ok, Err}
use Rattle.capdl_text.specs.Below.{Refused, TextFault, number_value}
use Rattle.capdl_text.specs.declared.seen.Seen.{Seen}
use Rattle.capdl_text.specs.declared.token.Kind.{Kind}
use Rattle.capdl_text.specs.declared.token.Kind.TheVariants as kinds
use Rattle.capdl_text.specs.declared.token.Lexeme.{Lexeme}
use Rattle.capdl_text.specs.declared.token.Sort.{Sort}
use Rattle.capdl_text.specs.declared.token.Sort.TheVariants as sorts
use Rattle.capdl_text.specs.declared.token.Span.{Span}
use Rattle.capdl_text.specs.declared.token.Token.{Token}
use Rattle.capdl_text.specs.Codes.{mark_code, number_code, page_code, text_code, word_code}
use Rattle.capdl_text.specs.Lexes.{IsLexed}
use Rattle.capdl_text.specs.TokensSeen.{seen_at, text_at}

abbrev pub sort_of : Kind → Sort
sort_of (kinds.Word word) = sorts.Word word
sort_of (kinds.Number n) = sorts.Number
sort_of kinds.Page = sorts.Page
sort_of kinds.Text = sorts.Text
sort_of (kinds.Mark mark) = sorts.Mark mark

-- the code of each kind of this sort
abbrev pub sort_code : Sort → ℕ
sort_code (sorts.Word word) = word_code word
sort_code sorts.Number = number_code
sort_code sorts.Page = page_code
sort_code sorts.Text = text_code
sort_code (sorts.Mark mark) = mark_code mark

-- the kind of this sort, with this value where it is a number
abbrev pub kind_with : Sort → ℕ → Kind
kind_with (sorts.Word word) n = kinds.Word word
kind_with sorts.Number n = kinds.Number n
kind_with sorts.Page n = kinds.Page
kind_with sorts.Text n = kinds.Text
kind_with (sorts.Mark mark) n = kinds.Mark mark

-- the value of the number at a place, 0 where none stands there
abbrev pub value_at : List ℕ → Span → ℕ
value_at bytes p = unwrap_or (number_value (text_at bytes p)) 0

abbrev pub token_of : List ℕ → Lexeme → Token
token_of bytes l = record { kind = kind_with l.sort (value_at bytes l.place); place = l.place }

abbrev pub tokens_of : List ℕ → List Lexeme → List Token
tokens_of bytes ls = map (token_of bytes) ls

-- what a grammar sees of them
abbrev pub seen_of : List ℕ → Lexeme → Seen
seen_of bytes l = seen_at bytes (token_of bytes l)

abbrev pub sees : List ℕ → List Lexeme → List Seen
sees bytes ls = map (seen_of bytes) ls

-- what a lexer answers, whose tokens are kept so
abbrev pub AreLexemes : List ℕ → Result (List Lexeme) (Refused TextFault) → Type 0
AreLexemes bytes (Ok ls) = IsLexed bytes (Ok (tokens_of bytes ls))
AreLexemes bytes (Err e) = IsLexed bytes (Err e)
