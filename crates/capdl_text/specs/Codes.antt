-- The codes of tokens: what the grammar asks of one. Lines name codes by the kinds below, and never by their numbers.
use Rattle.std.specs.Prelude.{ℕ, List, [], ◌∷◌}
use Rattle.capdl_text.specs.Below.{Directory, Global, Level, Table, Upper}
use Rattle.capdl_text.specs.declared.field.Field.{Field}
use Rattle.capdl_text.specs.declared.field.Field.TheVariants as fields
use Rattle.capdl_text.specs.declared.token.Kind.{Kind}
use Rattle.capdl_text.specs.declared.token.Kind.TheVariants as kinds
use Rattle.capdl_text.specs.declared.token.Mark.{Mark}
use Rattle.capdl_text.specs.declared.token.Mark.TheVariants as marks
use Rattle.capdl_text.specs.declared.token.Word.{Word}
use Rattle.capdl_text.specs.declared.token.Word.TheVariants as words
use Rattle.capdl_text.specs.declared.seen.Seen.{Seen}

abbrev pub level_code : Level → ℕ
level_code Global = 14
level_code Upper = 15
level_code Directory = 16
level_code Table = 17

abbrev pub field_code : Field → ℕ
field_code fields.Addr = 18
field_code fields.Ip = 19
field_code fields.Sp = 20
field_code fields.Prio = 21
field_code fields.Elf = 22
field_code fields.Paddr = 23
field_code fields.Fill = 24

abbrev pub word_code : Word → ℕ
word_code words.Plain = 0
word_code words.Arch = 1
word_code words.Arm11 = 2
word_code words.Aarch64 = 3
word_code words.Objects = 4
word_code words.Caps = 5
word_code words.Irq = 6
word_code words.Maps = 7
word_code words.Endpoint = 8
word_code words.Notification = 9
word_code words.CNode = 10
word_code words.Bits = 11
word_code words.Thread = 12
word_code words.Frame = 13
word_code (words.Pages level) = level_code level
word_code (words.Field field) = field_code field
word_code words.FileData = 25
word_code words.Cspace = 26
word_code words.Vspace = 27
word_code words.Buffer = 28
word_code words.Badge = 29
word_code words.Rights = 30
word_code words.LeftOutRights = 31

abbrev pub number_code : ℕ
number_code = 32

abbrev pub page_code : ℕ
page_code = 33

abbrev pub text_code : ℕ
text_code = 34

abbrev pub mark_code : Mark → ℕ
mark_code marks.BraceL = 35
mark_code marks.BraceR = 36
mark_code marks.ParenL = 37
mark_code marks.ParenR = 38
mark_code marks.SquareL = 39
mark_code marks.SquareR = 40
mark_code marks.Equals = 41
mark_code marks.Colon = 42
mark_code marks.Comma = 43

abbrev pub kind_code : Kind → ℕ
kind_code (kinds.Word word) = word_code word
kind_code (kinds.Number n) = number_code
kind_code kinds.Page = page_code
kind_code kinds.Text = text_code
kind_code (kinds.Mark mark) = mark_code mark

abbrev pub token_code : Seen → ℕ
token_code t = kind_code t.kind

-- every word may name an object
abbrev pub name_codes : List ℕ
name_codes =
    0 ∷ 1 ∷ 2 ∷ 3 ∷ 4 ∷ 5 ∷ 6 ∷ 7 ∷ 8 ∷ 9 ∷ 10 ∷ 11 ∷ 12 ∷ 13 ∷ 14 ∷ 15 ∷ 16 ∷ 17 ∷ 18 ∷ 19 ∷ 20 ∷ 21 ∷ 22 ∷ 23 ∷ 24 ∷ 25 ∷ 26
    ∷ 27 ∷ 28 ∷ 29 ∷ 30 ∷ 31 ∷ []
