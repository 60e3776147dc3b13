-- The codes of tokens: what the grammar asks of one. The words void and Buf have codes of their own; lines name codes by
-- the kinds below, and never by their numbers.
use Rattle.std.specs.Prelude.{ℕ, List, [], ◌∷◌, codes, if◌then◌else◌}
use Rattle.std.specs.Str.{bytes_eq}
use Rattle.cam_base.specs.declared.token.Kind.{Kind}
use Rattle.cam_base.specs.declared.token.Kind.TheVariants as kinds
use Rattle.cam_base.specs.declared.token.Keyword.{Keyword}
use Rattle.cam_base.specs.declared.token.Keyword.TheVariants as keys
use Rattle.cam_base.specs.declared.token.Mark.{Mark}
use Rattle.cam_base.specs.declared.token.Mark.TheVariants as marks
use Rattle.adl_ast.specs.declared.seen.Seen.{Seen}

-- a word without a meaning of its own, the word void, the word Buf
abbrev pub plain_code : ℕ
plain_code = 0

abbrev pub void_code : ℕ
void_code = 1

abbrev pub buf_code : ℕ
buf_code = 2

abbrev pub word_code : List ℕ → ℕ
word_code text = if bytes_eq text (codes "void") then void_code else if bytes_eq text (codes "Buf") then buf_code else plain_code

-- the codes of words, of all and of those but one
abbrev pub word_codes : List ℕ
word_codes = plain_code ∷ void_code ∷ buf_code ∷ []

abbrev pub not_void_codes : List ℕ
not_void_codes = plain_code ∷ buf_code ∷ []

abbrev pub not_buf_codes : List ℕ
not_buf_codes = plain_code ∷ void_code ∷ []

abbrev pub number_code : ℕ
number_code = 3

abbrev pub text_code : ℕ
text_code = 4

abbrev pub angle_code : ℕ
angle_code = 5

abbrev pub mark_code : Mark → ℕ
mark_code marks.BraceL = 6
mark_code marks.BraceR = 7
mark_code marks.ParenL = 8
mark_code marks.ParenR = 9
mark_code marks.SquareL = 10
mark_code marks.SquareR = 11
mark_code marks.Semi = 12
mark_code marks.Comma = 13
mark_code marks.Dot = 14
mark_code marks.Equals = 15
mark_code marks.Colon = 16
mark_code marks.Arrow = 17
mark_code marks.Back = 18

abbrev pub key_code : Keyword → ℕ
key_code keys.KAssembly = 19
key_code keys.KAttribute = 20
key_code keys.KBinarySemaphore = 21
key_code keys.KComponent = 22
key_code keys.KComposition = 23
key_code keys.KConfiguration = 24
key_code keys.KConnection = 25
key_code keys.KConsumes = 26
key_code keys.KControl = 27
key_code keys.KDataport = 28
key_code keys.KEmits = 29
key_code keys.KExport = 30
key_code keys.KFrom = 31
key_code keys.KGroup = 32
key_code keys.KHardware = 33
key_code keys.KHas = 34
key_code keys.KImport = 35
key_code keys.KIn = 36
key_code keys.KInclude = 37
key_code keys.KInout = 38
key_code keys.KMaybe = 39
key_code keys.KMutex = 40
key_code keys.KOut = 41
key_code keys.KProcedure = 42
key_code keys.KProvides = 43
key_code keys.KRefin = 44
key_code keys.KSemaphore = 45
key_code keys.KTo = 46
key_code keys.KUses = 47

-- the code of a token of this kind with these bytes
abbrev pub kind_code : Kind → List ℕ → ℕ
kind_code kinds.Word text = word_code text
kind_code (kinds.Key key) text = key_code key
kind_code (kinds.Number n) text = number_code
kind_code kinds.Text text = text_code
kind_code kinds.Angle text = angle_code
kind_code (kinds.Mark mark) text = mark_code mark

abbrev pub token_code : Seen → ℕ
token_code t = kind_code t.kind t.text

-- a kind without the value of a number
abbrev pub without_value : Kind → Kind
without_value kinds.Word = kinds.Word
without_value (kinds.Key key) = kinds.Key key
without_value (kinds.Number n) = kinds.Number 0
without_value kinds.Text = kinds.Text
without_value kinds.Angle = kinds.Angle
without_value (kinds.Mark mark) = kinds.Mark mark
