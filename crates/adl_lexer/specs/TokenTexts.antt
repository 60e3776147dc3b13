-- The bytes of a token, in plain words.
use Rattle.std.specs.Prelude.{◌≡◌, ℕ, ◌-◌, true, List, [], ◌++◌, Some, None, take, drop, codes}
use Rattle.cam_base.specs.declared.place.Place.{Place}
use Rattle.cam_base.specs.declared.token.Kind.{Kind}
use Rattle.cam_base.specs.declared.token.Kind.TheVariants as kinds
use Rattle.cam_base.specs.declared.token.Mark.{Mark}
use Rattle.cam_base.specs.declared.token.Mark.TheVariants as marks
use Rattle.cam_base.specs.Names.{is_name}
use Rattle.cam_base.specs.Numbers.{number_value}
use Rattle.adl_lexer.specs.Keywords.{spelling, keyword_of}
use Rattle.adl_lexer.specs.LexFaults.{after_text, after_angle}

-- the bytes at a place
abbrev pub text_at : List ℕ → Place → List ℕ
text_at bytes place = take (place.end - place.first) (drop place.first bytes)

abbrev pub mark_text : Mark → List ℕ
mark_text marks.BraceL = codes "{"
mark_text marks.BraceR = codes "}"
mark_text marks.ParenL = codes "("
mark_text marks.ParenR = codes ")"
mark_text marks.SquareL = codes "["
mark_text marks.SquareR = codes "]"
mark_text marks.Semi = codes ";"
mark_text marks.Comma = codes ","
mark_text marks.Dot = codes "."
mark_text marks.Equals = codes "="
mark_text marks.Colon = codes ":"
mark_text marks.Arrow = codes "->"
mark_text marks.Back = codes "<-"

-- A word is an identifier of 1 to 127 bytes that is no keyword, a keyword its word, a number its digits, and a mark is its
-- one or two bytes. A text begins with a quote, and the quote that ends it is its last byte: so no line feed stands in
-- it, and a quote within only behind a backslash. An angle name begins with <, and the > that ends it is its last byte.
abbrev pub IsTextOf : Kind → List ℕ → Type 0
IsTextOf kinds.Word text = (is_name text ≡ true) × (keyword_of text ≡ None)
IsTextOf (kinds.Key k) text = text ≡ spelling k
IsTextOf (kinds.Number n) text = number_value text ≡ Some n
IsTextOf kinds.Text text = (body : List ℕ) × (text ≡ codes "\"" ++ body) × (after_text body ≡ Some [])
IsTextOf kinds.Angle text = (body : List ℕ) × (text ≡ codes "<" ++ body) × (after_angle body ≡ Some [])
IsTextOf (kinds.Mark m) text = text ≡ mark_text m
