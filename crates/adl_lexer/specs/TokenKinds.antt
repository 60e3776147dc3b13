-- The kinds of tokens, as forms over bytes: which bytes are of which kind.
use Rattle.std.specs.Prelude.{◌≡◌, ℕ, List, [], ◌∷◌, Option, Some, None}
use Rattle.cam_base.specs.declared.token.Keyword.{Keyword}
use Rattle.cam_base.specs.declared.token.Kind.{Kind}
use Rattle.cam_base.specs.declared.token.Kind.TheVariants as kinds
use Rattle.cam_base.specs.declared.token.Mark.{Mark}
use Rattle.cam_base.specs.declared.token.Mark.TheVariants as marks
use Rattle.cam_base.specs.Numbers.{number_value}
use Rattle.cam_base.specs.Form.{Form, Give, One, Then, Or, Many, As, Starts, token}
use Rattle.cam_base.specs.Spelling.{Meaning}
use Rattle.cam_base.specs.Reading.{Reader, read, too_deep}
use Rattle.adl_lexer.specs.Classes.{letters, digits, hex_digits, word_bytes, angle_first, angle_bytes, mark_bytes, plain_bytes, line_bytes, cross, zero_digit, digit, less, minus, greater, quote, backslash, dot, brace_l, brace_r, paren_l, paren_r, square_l, square_r, semi, comma, equals, colon, class_of}
use Rattle.adl_lexer.specs.Keywords.{keyword_of}

abbrev pub Bytes : Type 0 → Type 1
Bytes A = Form ℕ (Unit {0}) A

abbrev pub kind_or_word : Option Keyword → Kind
kind_or_word None = kinds.Word
kind_or_word (Some k) = kinds.Key k

-- a word in the list of keywords is that keyword
abbrev pub word_kind : List ℕ → Kind
word_kind text = kind_or_word (keyword_of text)

abbrev pub kind_of_value : Option ℕ → Kind
kind_of_value None = kinds.Number 0
kind_of_value (Some n) = kinds.Number n

-- A number, with its value. (What is no number, or passes 2^64 - 1, is at fault and no token: specs/LexFaults.antt.)
unfoldable pub number_kind : List ℕ → Kind
number_kind text = kind_of_value (number_value text)

-- a letter or an underscore, then letters, digits and underscores
unfoldable pub word_line : Bytes Kind
word_line = As (λ x. word_kind (x.0 ∷ x.1)) (Then (One letters) (Many (One word_bytes)))

-- x or X and one or more hexadecimal digits, or nothing
unfoldable pub hex_line : Bytes (List ℕ)
hex_line =
    Or (Starts (cross ∷ []) (As (λ x. x.0 ∷ x.1.0 ∷ x.1.1) (Then (token cross) (Then (One hex_digits) (Many (One hex_digits))))))
    (Give [])

-- 0, or a hexadecimal number, or a digit from 1 to 9 and digits
unfoldable pub number_line : Bytes Kind
number_line =
    As (λ x. number_kind (x.0 ∷ x.1)) (Or (Then (token zero_digit) hex_line) (Then (token digit) (Many (One digits))))

-- a byte that is no quote and no backslash, or a backslash and any byte; no line feed
unfoldable pub text_item : Bytes (Unit {0})
text_item = Or (As (λ x. tt) (Then (token backslash) (One line_bytes))) (As (λ b. tt) (One plain_bytes))

-- a quote, bytes, a quote
unfoldable pub text_line : Bytes Kind
text_line = As (λ x. kinds.Text) (Then (token quote) (Then (Many (Starts (backslash ∷ plain_bytes) text_item)) (token quote)))

-- behind < stands - or an angle name's bytes and >
unfoldable pub less_line : Bytes Kind
less_line =
    As (λ x. x.1)
    (Then (token less) (Or (As (λ b. kinds.Mark marks.Back) (token minus))
    (As (λ x. kinds.Angle) (Then (One angle_first) (Then (Many (One angle_bytes)) (token greater))))))

unfoldable pub arrow_line : Bytes Kind
arrow_line = As (λ x. kinds.Mark marks.Arrow) (Then (token minus) (token greater))

abbrev pub mark : ℕ → Mark → Bytes Kind
mark c m = As (λ b. kinds.Mark m) (token c)

unfoldable pub mark_line : Bytes Kind
mark_line =
    Or (mark dot marks.Dot)
    (Or (mark brace_l marks.BraceL)
    (Or (mark brace_r marks.BraceR)
    (Or (mark paren_l marks.ParenL)
    (Or (mark paren_r marks.ParenR)
    (Or (mark square_l marks.SquareL)
    (Or (mark square_r marks.SquareR)
    (Or (mark semi marks.Semi)
    (Or (mark comma marks.Comma) (Or (mark equals marks.Equals) (mark colon marks.Colon))))))))))

-- any token
abbrev pub token_form : Bytes Kind
token_form =
    Or (Starts letters word_line)
    (Or (Starts digits number_line)
    (Or (Starts (quote ∷ []) text_line)
    (Or (Starts (less ∷ []) less_line) (Or (Starts (minus ∷ []) arrow_line) (Starts mark_bytes mark_line)))))

-- no line of these stands within itself
abbrev pub flat : Meaning ℕ (Unit {0})
flat = record { spells = λ v ts. ⊥; begins = λ ts. ts ≡ [] }

-- the reader of a form
abbrev pub reads : {A : Type 0} → Bytes A → Reader ℕ A
reads f = read class_of [] too_deep f
