-- The kinds of tokens: which bytes are a token, and of which kind.
--
--   a word: a letter or an underscore, then letters, digits and underscores;
--   a number: 0, or a digit from 1 to 9 and digits, or 0x or 0X and hexadecimal digits, up to 2^64 - 1;
--   the size 4k;
--   a text: a quote, bytes that are no quote and no line feed, a quote;
--   a mark: { } ( ) [ ] = : ,
use Rattle.std.specs.Prelude.{ℕ, ◌==◌, Bool, true, false, not, ◌&&◌, if◌then◌else◌, List, [], ◌∷◌, codes, Option, Some, None}
use Rattle.capdl_text.specs.Below.{bytes_eq, is_digit, is_letter, is_word_byte, list_all, number_value, option_map}
use Rattle.capdl_text.specs.declared.token.Kind.{Kind}
use Rattle.capdl_text.specs.declared.token.Kind.TheVariants as kinds
use Rattle.capdl_text.specs.declared.token.Mark.{Mark}
use Rattle.capdl_text.specs.declared.token.Mark.TheVariants as marks
use Rattle.capdl_text.specs.Words.{word_of}

-- the mark that a byte is
unfoldable pub mark_of : ℕ → Option Mark
mark_of b =
    if b == 123 then Some marks.BraceL
    else if b == 125 then Some marks.BraceR
    else if b == 40 then Some marks.ParenL
    else if b == 41 then Some marks.ParenR
    else if b == 91 then Some marks.SquareL
    else if b == 93 then Some marks.SquareR
    else if b == 61 then Some marks.Equals
    else if b == 58 then Some marks.Colon
    else if b == 44 then Some marks.Comma
    else None

-- a number or 4k
abbrev pub digits_kind : List ℕ → Option Kind
digits_kind run = if bytes_eq run (codes "4k") then Some kinds.Page else option_map kinds.Number (number_value run)

abbrev pub is_end : List ℕ → Bool
is_end [] = true
is_end (b ∷ bs) = false

-- behind a quote: bytes of a text, and the quote that ends it, and no more
abbrev pub ends_text : List ℕ → Bool
ends_text [] = false
ends_text (b ∷ bs) = if b == 34 then is_end bs else not (b == 10) && ends_text bs

-- the kind of token that the bytes are
unfoldable pub kind_of : List ℕ → Option Kind
kind_of [] = None
kind_of (b ∷ bs) =
    if is_letter b then (if list_all is_word_byte bs then Some (kinds.Word (word_of (b ∷ bs))) else None)
    else if is_digit b then digits_kind (b ∷ bs)
    else if b == 34 then (if ends_text bs then Some kinds.Text else None)
    else if is_end bs then option_map kinds.Mark (mark_of b)
    else None
