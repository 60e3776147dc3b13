-- The fault of a source where reading its tokens stopped.
use Rattle.std.specs.Prelude.{◌≡◌, ℕ, List, [], ◌∷◌, length, drop, ◌-◌, codes}
use Rattle.cam_base.specs.declared.code.Code.{Code}
use Rattle.cam_base.specs.declared.code.Code.TheVariants.{Syntax, Limit}
use Rattle.cam_base.specs.declared.place.Place.{Place}
use Rattle.cam_base.specs.declared.place.Fault.{Fault}
use Rattle.cam_base.specs.declared.token.Token.{Token}
use Rattle.cam_base.specs.declared.error.Refused.{Refused}
use Rattle.cam_base.specs.declared.error.Refused.TheVariants as refusals
use Rattle.cam_base.specs.declared.grammar_error.ReadError.{ReadError}
use Rattle.cam_base.specs.declared.grammar_error.ReadError.TheVariants as errors
use Rattle.cam_base.specs.declared.grammar_error.Why.{Why}
use Rattle.cam_base.specs.declared.grammar_error.Why.TheVariants.{Unexpected, TooDeep}

-- the file that the tokens are of; file 0 where there is none
abbrev pub file_of : List Token → ℕ
file_of [] = 0
file_of (t ∷ ts) = t.place.file

-- the place of the first token, or of the end of a file of so many bytes
abbrev pub place_at : ℕ → ℕ → List Token → Place
place_at file total [] = record { file = file; first = total; end = total }
place_at file total (t ∷ ts) = t.place

-- The place where so many of the tokens are left, counted from the end: that of the first of them, or the end of the file.
abbrev pub place_of : List ℕ → List Token → ℕ → Place
place_of bytes tokens left = place_at (file_of tokens) (length bytes) (drop (length tokens - left) tokens)

abbrev pub code_of : Why → Code
code_of Unexpected = Syntax
code_of TooDeep = Limit

abbrev pub name_of : Why → List ℕ
name_of Unexpected = []
name_of TooDeep = codes "nesting"

-- A token that doesn't go on with the form is a syntax fault, and a bracket that nests too deep passes a limit.
abbrev pub fault_of : List ℕ → List Token → Why → ℕ → Fault
fault_of bytes tokens why left = record { code = code_of why; place = place_of bytes tokens left; name = name_of why }

-- A refusal is want of memory, which may come at any call, or the fault of the place where reading stopped.
abbrev pub IsRefusalOf : List ℕ → List Token → ReadError → Refused Fault → Type 0
IsRefusalOf bytes tokens e refusals.NoMemory = Unit {0}
IsRefusalOf bytes tokens errors.NoMemory (refusals.Fault f) = ⊥
IsRefusalOf bytes tokens (errors.Stop stop) (refusals.Fault f) = f ≡ fault_of bytes tokens stop.why stop.left
