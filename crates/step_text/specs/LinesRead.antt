-- What is read of one line.
use Rattle.std.specs.Prelude.{◌≡◌, ℕ, List, Option, Some, None, Result, Ok, Err}
use Rattle.step_text.specs.Below.{Bor, Line, Refused, Step, TextFault}
use Rattle.cam_base.specs.declared.error.Refused.TheVariants as refused
use Rattle.cam_base.specs.declared.text_fault.TextCode.{TextCode}
use Rattle.step_text.specs.Spelling.{spelled}
use Rattle.step_text.specs.StepTexts.{wrong, fault_of, step_of}

-- the step of fields where nothing is wrong, else what is wrong
abbrev pub AreJudged : (List ℕ → Option ℕ) → ℕ → List (List ℕ) → Result Step (TextCode × Bor (List ℕ)) → Type 0
AreJudged place before fields (Ok step) = (wrong place before fields ≡ None) × (spelled place fields ≡ Some step)
AreJudged place before fields (Err what) = wrong place before fields ≡ Some (what.0, what.1.now)

-- the step of a line where no fault stands, or its fault, unless memory ran out
abbrev pub IsLineRead : (List ℕ → Option ℕ) → ℕ → Line → Result Step (Refused TextFault) → Type 0
IsLineRead place before line (Ok step) = (fault_of place before line ≡ None) × (step_of place line ≡ Some step)
IsLineRead place before line (Err (refused.Fault fault)) = fault_of place before line ≡ Some fault
IsLineRead place before line (Err refused.NoMemory) = Unit {0}
