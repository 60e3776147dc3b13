-- The tokens of bytes, and the first fault of bytes.
use Rattle.std.specs.Prelude.{◌≡◌, ℕ, ◌-◌, ◌+◌, List, [], ◌∷◌, ◌++◌, length, Some, None, Result, Ok, Err}
use Rattle.cam_base.specs.declared.error.Refused.{Refused}
use Rattle.cam_base.specs.declared.error.Refused.TheVariants as refused
use Rattle.cam_base.specs.declared.place.Fault.{Fault}
use Rattle.cam_base.specs.declared.place.Place.{Place}
use Rattle.cam_base.specs.declared.token.Kind.{Kind}
use Rattle.cam_base.specs.declared.token.Token.{Token}
use Rattle.cam_base.specs.declared.token.Tokens.{Tokens}
use Rattle.cam_base.specs.Spelling.{Spells}
use Rattle.adl_lexer.specs.Classes.{class_of}
use Rattle.adl_lexer.specs.Gaps.{IsGap}
use Rattle.adl_lexer.specs.LexFaults.{fault_at, name_in}
use Rattle.adl_lexer.specs.TokenKinds.{token_form, flat}

-- A token of this kind stands at the front, and the rest behind it: its bytes are of the kind, no longer run from the
-- same first byte is a token, and no fault stands there.
pub record IsTokenAt (bs : List ℕ) (k : Kind) (rest : List ℕ) : Type 0 where
  pub text : List ℕ
  pub parts : bs ≡ text ++ rest
  pub kind : Spells class_of flat token_form k text
  pub longest : (longer : List ℕ) (after : List ℕ) (l : Kind) → rest ≡ longer ++ after
      → Spells class_of flat token_form l (text ++ longer) → longer ≡ []
  pub clean : fault_at bs ≡ None

-- the place from here to the rest, where there are so many bytes in all
abbrev pub place_of : ℕ → ℕ → List ℕ → List ℕ → Place
place_of file total here rest = record { file = file; first = total - length here; end = total - length rest }

-- The tokens of the last bytes of a file of so many: blanks and whole comments before, between and after them.
abbrev pub LexesFrom : ℕ → ℕ → List ℕ → List Token → Type 0
LexesFrom file total bs [] = IsGap bs []
LexesFrom file total bs (t ∷ ts) = (here : List ℕ) × (rest : List ℕ) × IsGap bs here × IsTokenAt here t.kind rest
    × (t.place ≡ place_of file total here rest) × LexesFrom file total rest ts

-- The file's bytes are these tokens, with blanks and whole comments before, between and after them.
abbrev pub Lexes : ℕ → List ℕ → List Token → Type 0
Lexes file bytes tokens = LexesFrom file (length bytes) bytes tokens

-- From the first bytes to the rest stand tokens, blanks and whole comments, none at fault.
pub data Reached : List ℕ → List ℕ → Type 0 where
  here : {bs rest : List ℕ} → IsGap bs rest → Reached bs rest
  past : {bs at after rest : List ℕ} {k : Kind} → IsGap bs at → IsTokenAt at k after → Reached after rest → Reached bs rest

-- The first fault of a file's bytes: in front of it stand tokens, blanks and whole comments, none at fault.
pub record IsFirstFault (file : ℕ) (bytes : List ℕ) (f : Fault) : Type 0 where
  pub rest : List ℕ
  pub text : List ℕ
  pub reached : Reached bytes rest
  pub stands : fault_at rest ≡ Some (f.code, text)
  pub place : f.place ≡ record {
    file = file;
    first = length bytes - length rest;
    end = (length bytes - length rest) + length text;
  }
  pub name : f.name ≡ name_in f.code text

-- What a lexer answers: the tokens, where no fault stands; or the first fault; or that memory ran out.
abbrev pub IsLexed : ℕ → List ℕ → Result Tokens (Refused Fault) → Type 0
IsLexed file bytes (Ok tokens) = Lexes file bytes tokens.list
IsLexed file bytes (Err (refused.Fault f)) = IsFirstFault file bytes f
IsLexed file bytes (Err refused.NoMemory) = Unit {0}
