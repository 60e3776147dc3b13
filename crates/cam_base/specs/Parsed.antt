-- What a public parser promises: of all tokens (a file), or of the first tokens (a part, with the rest after it).
use Rattle.std.specs.Prelude.{◌≡◌, ℕ, List, ◌++◌, Result, Ok, Err}
use Rattle.cam_base.specs.declared.grammar_error.Why.{Why}
use Rattle.cam_base.specs.declared.grammar_error.Why.TheVariants.{Unexpected, TooDeep}
use Rattle.cam_base.specs.declared.grammar_error.ReadError.{ReadError}
use Rattle.cam_base.specs.declared.grammar_error.ReadError.TheVariants as errors
use Rattle.cam_base.specs.Form.{Form}
use Rattle.cam_base.specs.Spelling.{Spells}
use Rattle.cam_base.specs.Depth.{deep, Spelled}
use Rattle.cam_base.specs.Faults.{IsSyntaxError, IsTooDeep}

module _ {T V A : Type 0} (code : T → ℕ) (line : Form T V V) (f : Form T V A) (limit : ℕ) (ts : List T) where
  -- No value is spelled by the tokens, at any depth, and the first wrong token stands there; or the first token that
  -- nests deeper than the limit does.
  abbrev pub FileStops : Why → ℕ → Type 0
  FileStops Unexpected left = IsSyntaxError code line f limit ts left × ((x : A) → Spelled code line f x ts → ⊥)
  FileStops TooDeep left = IsTooDeep code line f limit ts left

  -- The value is spelled by the tokens and nests at most limit deep; or a fault stands there; or memory ran out.
  abbrev pub IsFileOf : {X : Type 0} → (X → A) → Result X ReadError → Type 0
  IsFileOf view (Ok x) = Spells code (deep code line limit) f (view x) ts
  IsFileOf view (Err errors.NoMemory) = Unit {0}
  IsFileOf view (Err (errors.Stop stop)) = FileStops stop.why stop.left

  -- The same of a part: no value is spelled by any first tokens.
  abbrev pub PartStops : Why → ℕ → Type 0
  PartStops Unexpected left = IsSyntaxError code line f limit ts left × ((x : A) (a rest : List T) → ts ≡ a ++ rest
      → Spelled code line f x a → ⊥)
  PartStops TooDeep left = IsTooDeep code line f limit ts left

  -- The value is spelled by the tokens before the rest and nests at most limit deep; or a fault stands there; or memory
  -- ran out. The view gives the value and the rest.
  abbrev pub IsPartOf : {X : Type 0} → (X → A × List T) → Result X ReadError → Type 0
  IsPartOf view (Ok x) = (a : List T) × (ts ≡ a ++ (view x).1) × Spells code (deep code line limit) f (view x).0 a
  IsPartOf view (Err errors.NoMemory) = Unit {0}
  IsPartOf view (Err (errors.Stop stop)) = PartStops stop.why stop.left
