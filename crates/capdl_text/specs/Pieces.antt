-- One step of the lexer: what stands at the front of bytes.
use Rattle.std.specs.Prelude.{◌≡◌, ℕ, List, [], ◌∷◌, Option, Some, None, if◌then◌else◌, ◌==◌}
use Rattle.capdl_text.specs.Below.{is_digit, is_letter, is_word_byte, option_map}
use Rattle.capdl_text.specs.declared.piece.Piece.{Piece}
use Rattle.capdl_text.specs.declared.piece.Piece.TheVariants as pieces
use Rattle.capdl_text.specs.declared.token.Kind.{Kind}
use Rattle.capdl_text.specs.declared.token.Kind.TheVariants as kinds
use Rattle.capdl_text.specs.Gaps.{one_gap}
use Rattle.capdl_text.specs.TokenFaults.{Found, fault_at, run, after_run, after_text}
use Rattle.capdl_text.specs.TokenKinds.{digits_kind, mark_of}
use Rattle.capdl_text.specs.Words.{word_of}

-- a token and the rest behind it
abbrev pub Taken : Type 0
Taken = Option (Kind × List ℕ)

-- a word
abbrev pub word_taken : List ℕ → Taken
word_taken bs = Some (kinds.Word (word_of (run is_word_byte bs)), after_run is_word_byte bs)

-- a number or 4k
abbrev pub digits_taken : List ℕ → Taken
digits_taken bs = option_map (λ k. (k, after_run is_word_byte bs)) (digits_kind (run is_word_byte bs))

-- a text, behind its first quote
abbrev pub text_taken : List ℕ → Taken
text_taken bs = option_map (λ rest. (kinds.Text, rest)) (after_text bs)

abbrev pub mark_taken : ℕ → List ℕ → Taken
mark_taken b bs = option_map (λ m. (kinds.Mark m, bs)) (mark_of b)

-- the token at the front, by the first byte
unfoldable pub one_token : List ℕ → Taken
one_token [] = None
one_token (b ∷ bs) = if is_letter b then word_taken (b ∷ bs) else if is_digit b then digits_taken (b ∷ bs) else if b == 34 then
    text_taken bs else mark_taken b bs

-- What was found is what these say.
abbrev pub Fits : Option (List ℕ) → Taken → Found → Piece → Type 0
Fits gap token fault (pieces.Gap after) = gap ≡ Some after.now
Fits gap token fault (pieces.Token k after) = (token ≡ Some (k, after.now)) × (fault ≡ None)
Fits gap token fault (pieces.Bad code text) = fault ≡ Some (code, text.now)

-- at the front stands this piece
abbrev pub IsPiece : List ℕ → Piece → Type 0
IsPiece bs piece = Fits (one_gap bs) (one_token bs) (fault_at bs) piece

-- the same; nothing where there are no bytes
abbrev pub IsNext : List ℕ → Option Piece → Type 0
IsNext bs None = bs ≡ []
IsNext bs (Some piece) = IsPiece bs piece
