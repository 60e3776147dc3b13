-- The faults of tokens: which one stands at the front of bytes, and on which of them. By codes:
--   Byte      less_fault, sign_fault
--   Unclosed  text_fault, slash_fault
--   Number    number_fault
--   Limit     word_fault
--   LeftOut   word_fault, number_fault, minus_fault, slash_fault, sign_fault
use Rattle.std.specs.Prelude.{ℕ, Bool, false, ◌==◌, ◌&&◌, nat_lt, if◌then◌else◌, List, [], ◌∷◌, length, Option, Some, None, codes}
use Rattle.std.specs.List.{list_all, list_any}
use Rattle.std.specs.Str.{bytes_eq}
use Rattle.cam_base.specs.declared.code.Code.{Code}
use Rattle.cam_base.specs.declared.code.Code.TheVariants as code
use Rattle.cam_base.specs.Numbers.{is_digit, number_value}
use Rattle.cam_base.specs.Form.{among}
use Rattle.adl_lexer.specs.Classes.{class_of, run, after_run, letters, digits, word_bytes, angle_first, angle_bytes, mark_bytes, line_bytes, blanks, line_feed, slash, less, minus, greater, quote, backslash, left_out}
use Rattle.adl_lexer.specs.Gaps.{after_comment}

-- a code, and the bytes that are at fault
abbrev pub Found : Type 0
Found = Option (Code × List ℕ)

-- words of the full language that this profile leaves out
abbrev pub is_left_out_word : List ℕ → Bool
is_left_out_word word = list_any (bytes_eq word) (codes "connector" ∷ codes "struct" ∷ codes "enum" ∷ [])

-- a word of more than 127 bytes, or a word that is left out
abbrev pub word_fault : List ℕ → Found
word_fault word = if nat_lt 127 (length word) then Some (code.Limit, word) else if is_left_out_word word then Some
    (code.LeftOut, word) else None

-- a dot and a digit
abbrev pub is_fraction : List ℕ → Bool
is_fraction [] = false
is_fraction (d ∷ []) = false
is_fraction (d ∷ e ∷ bs) = d == 46 && is_digit e

abbrev pub number_fault_by : Option ℕ → List ℕ → List ℕ → Found
number_fault_by None text rest = Some (code.Number, text)
number_fault_by (Some n) text rest = if list_all is_digit text && is_fraction rest then Some (code.LeftOut, text) else None

-- A run of letters, digits and underscores that begins with a digit and is no number up to 2^64 - 1; or a decimal number
-- with a dot and a digit behind it, of which the number alone is at fault. (So 1.5 and 0.5 are left out, 01.5 is no
-- number, and 0x1.5 is no fault of tokens.)
abbrev pub number_fault : List ℕ → List ℕ → Found
number_fault text rest = number_fault_by (number_value text) text rest

-- the rest behind the quote that ends a text, of which a first quote stands before; none where its line has no such quote
abbrev pub after_text : List ℕ → Option (List ℕ)
after_text [] = None
after_text (b ∷ []) = if class_of b == quote then Some [] else None
after_text (b ∷ c ∷ bs) =
    if class_of b == quote then Some (c ∷ bs)
    else if class_of b == line_feed then None
    else if class_of b == backslash then (if class_of c == line_feed then None else after_text bs)
    else after_text (c ∷ bs)

-- no fault where there is a rest behind the token; else this code on these bytes
abbrev pub unless : Option (List ℕ) → Code → List ℕ → Found
unless None c text = Some (c, text)
unless (Some rest) c text = None

-- A text without its end in its line: up to the line feed or the end. (A carriage return belongs to the line, and a
-- backslash before the line feed does not hide it.)
abbrev pub text_fault : List ℕ → Found
text_fault [] = None
text_fault (b ∷ bs) = unless (after_text bs) code.Unclosed (run line_bytes (b ∷ bs))

-- the rest behind one byte of this class; none where none comes next
abbrev pub after_byte : ℕ → List ℕ → Option (List ℕ)
after_byte c [] = None
after_byte c (b ∷ bs) = if class_of b == c then Some bs else None

-- the rest behind an angle name, of which < stands before; none where none stands there
abbrev pub after_angle : List ℕ → Option (List ℕ)
after_angle [] = None
after_angle (b ∷ bs) = if among angle_first (class_of b) then after_byte greater (after_run angle_bytes bs) else None

-- the first rest that is there
abbrev pub or_else : Option (List ℕ) → Option (List ℕ) → Option (List ℕ)
or_else None rest = rest
or_else (Some rest) _ = Some rest

-- a < that begins neither <- nor an angle name
abbrev pub less_fault : List ℕ → Found
less_fault [] = None
less_fault (b ∷ bs) = unless (or_else (after_byte minus bs) (after_angle bs)) code.Byte (b ∷ [])

-- a - that isn't part of -> or <-
abbrev pub minus_fault : List ℕ → Found
minus_fault [] = None
minus_fault (b ∷ bs) = unless (after_byte greater bs) code.LeftOut (b ∷ [])

-- the next byte is a star
abbrev pub is_star : List ℕ → Bool
is_star [] = false
is_star (b ∷ bs) = b == 42

-- a comment without its end, up to the end of the bytes; or a slash that begins no comment
abbrev pub slash_fault : List ℕ → Found
slash_fault [] = None
slash_fault (b ∷ bs) = unless (after_comment bs) (if is_star bs then code.Unclosed else code.LeftOut) (if is_star bs then b
    ∷ bs else b ∷ [])

-- a byte that is left out; or one that begins no token, no blank and no comment
abbrev pub sign_fault : List ℕ → Found
sign_fault [] = None
sign_fault (b ∷ bs) =
    if class_of b == left_out then Some (code.LeftOut, b ∷ [])
    else if among mark_bytes (class_of b) then None
    else Some (code.Byte, b ∷ [])

-- The fault at the front of these bytes, where one stands there: by the first byte, which can have one kind alone.
unfoldable pub fault_at : List ℕ → Found
fault_at [] = None
fault_at (b ∷ bs) =
    if among letters (class_of b) then word_fault (run word_bytes (b ∷ bs))
    else if among digits (class_of b) then number_fault (run word_bytes (b ∷ bs)) (after_run word_bytes (b ∷ bs))
    else if among blanks (class_of b) then None
    else if class_of b == slash then slash_fault (b ∷ bs)
    else if class_of b == less then less_fault (b ∷ bs)
    else if class_of b == minus then minus_fault (b ∷ bs)
    else if class_of b == quote then text_fault (b ∷ bs)
    else sign_fault (b ∷ bs)

-- the name in a fault: the run that is no number, the name of the limit, or none
abbrev pub name_in : Code → List ℕ → List ℕ
name_in code.Number text = text
name_in code.Limit text = codes "name"
name_in c text = []
