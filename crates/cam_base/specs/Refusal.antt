-- The promise of a public parser whose errors are faults of the source: fault says what stands where reading stopped.
use Rattle.std.specs.Prelude.{◌≡◌, ℕ, List, ◌++◌, Result, Ok, Err}
use Rattle.cam_base.specs.declared.error.Refused.{Refused}
use Rattle.cam_base.specs.declared.error.Refused.TheVariants as refusals
use Rattle.cam_base.specs.declared.grammar_error.Why.{Why}
use Rattle.cam_base.specs.Form.{Form}
use Rattle.cam_base.specs.Spelling.{Spells}
use Rattle.cam_base.specs.Depth.{deep}
use Rattle.cam_base.specs.Parsed.{FileStops, PartStops}

module _ {T V A : Type 0} (code : T → ℕ) (line : Form T V V) (f : Form T V A) (limit : ℕ) (ts : List T) {F : Type 0} (fault : Why
    → ℕ → F) where
  -- As IsFileOf: the value is spelled by all tokens, or the fault is the one of the place where they stop, or memory ran out.
  abbrev pub IsFileRead : {X : Type 0} → (X → A) → Result X (Refused F) → Type 0
  IsFileRead view (Ok x) = Spells code (deep code line limit) f (view x) ts
  IsFileRead view (Err refusals.NoMemory) = Unit {0}
  IsFileRead view (Err (refusals.Fault e)) = (why : Why) × (left : ℕ) × (e ≡ fault why left)
      × FileStops code line f limit ts why left

  -- As IsPartOf: the value is spelled by the tokens before the rest, or the fault is the one of the place where they stop, or
  -- memory ran out.
  abbrev pub IsPartRead : {X : Type 0} → (X → A × List T) → Result X (Refused F) → Type 0
  IsPartRead view (Ok x) = (a : List T) × (ts ≡ a ++ (view x).1) × Spells code (deep code line limit) f (view x).0 a
  IsPartRead view (Err refusals.NoMemory) = Unit {0}
  IsPartRead view (Err (refusals.Fault e)) = (why : Why) × (left : ℕ) × (e ≡ fault why left)
      × PartStops code line f limit ts why left
