-- A text, laid out piece by piece: a token's bytes, and the blanks behind it.
use Rattle.std.specs.Prelude.{◌≡◌, ℕ, ◌-◌, Bool, true, false, not, ◌&&◌, ◌||◌, List, [], ◌∷◌, ◌++◌, length, Some, None}
use Rattle.cam_base.specs.Names.{is_word_byte}
use Rattle.capdl_text.specs.declared.token.Kind.{Kind}
use Rattle.capdl_text.specs.declared.token.Kind.TheVariants as kinds
use Rattle.capdl_text.specs.declared.token.Token.{Token}
use Rattle.capdl_text.specs.Gaps.{is_blank}
use Rattle.capdl_text.specs.TokenFaults.{fault_at}
use Rattle.capdl_text.specs.TokenKinds.{kind_of}

pub record Piece : Type 0 where
  pub kind : Kind
  pub text : List ℕ
  pub blanks : List ℕ

-- the whole text
abbrev pub laid : List Piece → List ℕ
laid [] = []
laid (p ∷ ps) = p.text ++ (p.blanks ++ laid ps)

abbrev pub all_blank : List ℕ → Bool
all_blank [] = true
all_blank (b ∷ bs) = is_blank b && all_blank bs

-- a token that goes on with letters and digits
abbrev pub runs_on : Kind → Bool
runs_on (kinds.Word word) = true
runs_on (kinds.Number n) = true
runs_on kinds.Page = true
runs_on kinds.Text = false
runs_on (kinds.Mark mark) = false

-- the next byte is of a word
abbrev pub goes_on : List ℕ → Bool
goes_on [] = false
goes_on (b ∷ bs) = is_word_byte b

-- the bytes of each piece are a token of its kind without a fault, which does not run on into what is behind it
abbrev pub Fine : List Piece → Type 0
Fine [] = Unit {0}
Fine (p ∷ ps) = (kind_of p.text ≡ Some p.kind) × (fault_at p.text ≡ None) × (all_blank p.blanks ≡ true)
    × ((not (runs_on p.kind) || not (goes_on (p.blanks ++ laid ps))) ≡ true) × Fine ps

-- its tokens, where so many bytes stand in all
abbrev pub tokens : ℕ → List Piece → List Token
tokens total [] = []
tokens total (p ∷ ps) = record {
  kind = p.kind;
  place = record {
    first = total - length (laid (p ∷ ps));
    end = total - length (p.blanks ++ laid ps);
  };
} ∷ tokens total ps
