-- One step of the lexer: what stands at the front of bytes.
use Rattle.std.specs.Prelude.{◌≡◌, ℕ, ◌==◌, if◌then◌else◌, List, [], ◌∷◌, Option, Some, None, Result, Ok}
use Rattle.cam_base.specs.declared.token.Kind.{Kind}
use Rattle.cam_base.specs.declared.token.Kind.TheVariants as kinds
use Rattle.cam_base.specs.declared.token.Mark.{Mark}
use Rattle.cam_base.specs.declared.grammar_error.Stop.{Stop}
use Rattle.adl_lexer.specs.declared.piece.Piece.{Piece}
use Rattle.adl_lexer.specs.declared.piece.Piece.TheVariants as pieces
use Rattle.adl_lexer.specs.Gaps.{one_gap}
use Rattle.adl_lexer.specs.LexFaults.{Found, fault_at}
use Rattle.adl_lexer.specs.TokenKinds.{reads, token_form}

-- What was found is what the reader of tokens, the test for faults and the test for gaps give.
abbrev pub Fits : Result (Kind × List ℕ) Stop → Found → Option (List ℕ) → Piece → Type 0
Fits read fault gap (pieces.Gap after) = gap ≡ Some after.now
Fits read fault gap (pieces.Token k after) = (read ≡ Ok (k, after.now)) × (fault ≡ None)
Fits read fault gap (pieces.Bad code text) = fault ≡ Some (code, text.now)

-- at the front stands this piece
abbrev pub IsPiece : List ℕ → Piece → Type 0
IsPiece bs piece = Fits (reads token_form bs) (fault_at bs) (one_gap bs) piece

-- the same; nothing where there are no bytes
abbrev pub IsNext : List ℕ → Option Piece → Type 0
IsNext bs None = bs ≡ []
IsNext bs (Some piece) = IsPiece bs piece

-- the token of this mark, with this rest
abbrev pub IsMark : Mark → List ℕ → Piece → Type 0
IsMark m rest (pieces.Token k after) = (k ≡ kinds.Mark m) × (after.now ≡ rest)
IsMark m rest _ = ⊥

-- the rest behind the first byte of this value; none where there is none
abbrev pub after_first : ℕ → List ℕ → Option (List ℕ)
after_first wanted [] = None
after_first wanted (b ∷ bs) = if b == wanted then Some bs else after_first wanted bs

-- the rest behind a slash at the front
abbrev pub after_slash : List ℕ → Option (List ℕ)
after_slash [] = None
after_slash (b ∷ bs) = if b == 47 then Some bs else None
