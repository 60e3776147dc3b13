-- Two tokens with one code are of one kind.
use Rattle.adl_ast.proofs.Common.{Bool, Kind, List, Seen, [], ap, codes, false, get_or, if◌then◌else◌, key_code, kind_code, mark_code, refl, sym, token_code, true, without_value, ℕ, ◌∙◌, ◌∷◌, ◌≡◌}
use Rattle.std.specs.Str.{bytes_eq}
use Rattle.cam_base.specs.declared.token.Kind.TheVariants as kinds
use Rattle.cam_base.specs.declared.token.Keyword.{Keyword}
use Rattle.cam_base.specs.declared.token.Keyword.TheVariants as keys
use Rattle.cam_base.specs.declared.token.Mark.{Mark}
use Rattle.cam_base.specs.declared.token.Mark.TheVariants as marks

-- the kinds in the order of their codes
abbrev by_code : List Kind
by_code =
    kinds.Word ∷ kinds.Word ∷ kinds.Word ∷ kinds.Number 0 ∷ kinds.Text ∷ kinds.Angle
    ∷ kinds.Mark marks.BraceL
    ∷ kinds.Mark marks.BraceR
    ∷ kinds.Mark marks.ParenL
    ∷ kinds.Mark marks.ParenR
    ∷ kinds.Mark marks.SquareL
    ∷ kinds.Mark marks.SquareR
    ∷ kinds.Mark marks.Semi
    ∷ kinds.Mark marks.Comma
    ∷ kinds.Mark marks.Dot
    ∷ kinds.Mark marks.Equals
    ∷ kinds.Mark marks.Colon
    ∷ kinds.Mark marks.Arrow
    ∷ kinds.Mark marks.Back
    ∷ kinds.Key keys.KAssembly
    ∷ kinds.Key keys.KAttribute
    ∷ kinds.Key keys.KBinarySemaphore
    ∷ kinds.Key keys.KComponent
    ∷ kinds.Key keys.KComposition
    ∷ kinds.Key keys.KConfiguration
    ∷ kinds.Key keys.KConnection
    ∷ kinds.Key keys.KConsumes
    ∷ kinds.Key keys.KControl
    ∷ kinds.Key keys.KDataport
    ∷ kinds.Key keys.KEmits
    ∷ kinds.Key keys.KExport
    ∷ kinds.Key keys.KFrom
    ∷ kinds.Key keys.KGroup
    ∷ kinds.Key keys.KHardware
    ∷ kinds.Key keys.KHas
    ∷ kinds.Key keys.KImport
    ∷ kinds.Key keys.KIn
    ∷ kinds.Key keys.KInclude
    ∷ kinds.Key keys.KInout
    ∷ kinds.Key keys.KMaybe
    ∷ kinds.Key keys.KMutex
    ∷ kinds.Key keys.KOut
    ∷ kinds.Key keys.KProcedure
    ∷ kinds.Key keys.KProvides
    ∷ kinds.Key keys.KRefin
    ∷ kinds.Key keys.KSemaphore
    ∷ kinds.Key keys.KTo
    ∷ kinds.Key keys.KUses
    ∷ []

abbrev kind_with : ℕ → Kind
kind_with c = get_or by_code c kinds.Word

word_among : (b c : Bool) → kind_with (if b then 1 else if c then 2 else 0) ≡ kinds.Word
word_among true c = refl
word_among false true = refl
word_among false false = refl

key_back : (k : Keyword) → kind_with (key_code k) ≡ kinds.Key k
key_back keys.KAssembly = refl
key_back keys.KAttribute = refl
key_back keys.KBinarySemaphore = refl
key_back keys.KComponent = refl
key_back keys.KComposition = refl
key_back keys.KConfiguration = refl
key_back keys.KConnection = refl
key_back keys.KConsumes = refl
key_back keys.KControl = refl
key_back keys.KDataport = refl
key_back keys.KEmits = refl
key_back keys.KExport = refl
key_back keys.KFrom = refl
key_back keys.KGroup = refl
key_back keys.KHardware = refl
key_back keys.KHas = refl
key_back keys.KImport = refl
key_back keys.KIn = refl
key_back keys.KInclude = refl
key_back keys.KInout = refl
key_back keys.KMaybe = refl
key_back keys.KMutex = refl
key_back keys.KOut = refl
key_back keys.KProcedure = refl
key_back keys.KProvides = refl
key_back keys.KRefin = refl
key_back keys.KSemaphore = refl
key_back keys.KTo = refl
key_back keys.KUses = refl

mark_back : (m : Mark) → kind_with (mark_code m) ≡ kinds.Mark m
mark_back marks.BraceL = refl
mark_back marks.BraceR = refl
mark_back marks.ParenL = refl
mark_back marks.ParenR = refl
mark_back marks.SquareL = refl
mark_back marks.SquareR = refl
mark_back marks.Semi = refl
mark_back marks.Comma = refl
mark_back marks.Dot = refl
mark_back marks.Equals = refl
mark_back marks.Colon = refl
mark_back marks.Arrow = refl
mark_back marks.Back = refl

kind_back : (k : Kind) (text : List ℕ) → kind_with (kind_code k text) ≡ without_value k
kind_back kinds.Word text = word_among (bytes_eq text (codes "void")) (bytes_eq text (codes "Buf"))
kind_back (kinds.Key k) text = key_back k
kind_back (kinds.Number n) text = refl
kind_back kinds.Text text = refl
kind_back kinds.Angle text = refl
kind_back (kinds.Mark m) text = mark_back m

pub same_code : (a b : Kind) (s t : List ℕ) → kind_code a s ≡ kind_code b t → without_value a ≡ without_value b
same_code a b s t e = sym (kind_back a s) ∙ ap kind_with e ∙ kind_back b t

pub one_kind : (a b : Seen) → token_code a ≡ token_code b → without_value a.kind ≡ without_value b.kind
one_kind a b e = same_code a.kind b.kind a.text b.text e
