-- The tokens of a text, and its first fault of tokens.
use Rattle.std.specs.Prelude.{◌≡◌, ℕ, true, ◌-◌, ◌+◌, List, [], ◌∷◌, ◌++◌, length, Some, None, Result, Ok, Err}
use Rattle.capdl_text.specs.Below.{Refused, TextFault, is_some}
use Rattle.cam_base.specs.declared.error.Refused.TheVariants as refused
use Rattle.capdl_text.specs.declared.token.Kind.{Kind}
use Rattle.capdl_text.specs.declared.token.Span.{Span}
use Rattle.capdl_text.specs.declared.token.Token.{Token}
use Rattle.capdl_text.specs.Gaps.{IsGap}
use Rattle.capdl_text.specs.TokenKinds.{kind_of}
use Rattle.capdl_text.specs.TokenFaults.{fault_at}

-- A token of this kind stands at the front, and the rest behind it: its bytes are of the kind, no longer run from the
-- same first byte is a token, and no fault stands there.
pub record IsTokenAt (bs : List ℕ) (k : Kind) (rest : List ℕ) : Type 0 where
  pub text : List ℕ
  pub parts : bs ≡ text ++ rest
  pub kind : kind_of text ≡ Some k
  pub longest : (longer : List ℕ) (after : List ℕ) → rest ≡ longer ++ after → is_some (kind_of (text ++ longer)) ≡ true
      → longer ≡ []
  pub clean : fault_at bs ≡ None

-- the place from here to the rest, where there are so many bytes in all
abbrev pub place_of : ℕ → List ℕ → List ℕ → Span
place_of total here rest = record { first = total - length here; end = total - length rest }

-- The tokens of the last bytes of a text of so many: blanks and whole comments before, between and after them.
abbrev pub LexesFrom : ℕ → List ℕ → List Token → Type 0
LexesFrom total bs [] = IsGap bs []
LexesFrom total bs (t ∷ ts) = (here : List ℕ) × (rest : List ℕ) × IsGap bs here × IsTokenAt here t.kind rest
    × (t.place ≡ place_of total here rest) × LexesFrom total rest ts

-- The text's bytes are these tokens, with blanks and whole comments before, between and after them.
abbrev pub Lexes : List ℕ → List Token → Type 0
Lexes bytes tokens = LexesFrom (length bytes) bytes tokens

-- From the first bytes to the rest stand tokens, blanks and whole comments, none at fault.
pub data Reached : List ℕ → List ℕ → Type 0 where
  here : {bs rest : List ℕ} → IsGap bs rest → Reached bs rest
  past : {bs at after rest : List ℕ} {k : Kind} → IsGap bs at → IsTokenAt at k after → Reached after rest → Reached bs rest

-- The first fault of a text's tokens: in front of it stand tokens, blanks and whole comments, none at fault. It has no
-- name.
pub record IsTokenFault (bytes : List ℕ) (f : TextFault) : Type 0 where
  pub rest : List ℕ
  pub text : List ℕ
  pub reached : Reached bytes rest
  pub stands : fault_at rest ≡ Some (f.code, text)
  pub first : f.first ≡ length bytes - length rest
  pub end : f.end ≡ (length bytes - length rest) + length text
  pub name : f.name ≡ []

-- What a lexer answers: the tokens, where no fault stands; or the first fault; or that memory ran out.
abbrev pub IsLexed : List ℕ → Result (List Token) (Refused TextFault) → Type 0
IsLexed bytes (Ok tokens) = Lexes bytes tokens
IsLexed bytes (Err (refused.Fault f)) = IsTokenFault bytes f
IsLexed bytes (Err refused.NoMemory) = Unit {0}
