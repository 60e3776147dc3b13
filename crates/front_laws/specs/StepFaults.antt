-- Which line of a text of steps is refused, and for what. All lines in front of it spell steps, and no more of them than there
-- may be; what is wrong with it follows from the line alone, but for the limit.
use Rattle.std.specs.Prelude.{◌≡◌, ◌<◌, ◌≤◌, ℕ, List, [], ◌∷◌, ◌++◌, length, Some}
use Rattle.cam_base.specs.declared.text_fault.TextCode.TheVariants.{StepLimit, StepSyntax, StepUnknown}
use Rattle.cam_base.specs.declared.text_fault.TextFault.{TextFault}
use Rattle.cap_machine.specs.declared.step.Step.{Step}
use Rattle.cap_model.specs.declared.spec.Spec.{Spec}
use Rattle.cam_base.specs.Gather.{IsIn}
use Rattle.step_text.specs.Spelling.{any_word, names, spelled}
use Rattle.step_text.specs.StepTexts.{bytes_limit, first_unknown, step_of, steps_limit}
use Rattle.step_text.specs.Threads.{thread_named}
use Rattle.cam_base.specs.Fields.{fields}
use Rattle.cam_base.specs.LineFaults.{at_line}
use Rattle.cam_base.specs.Lines.{Line, lines}

-- the line spells a step of threads of the spec
abbrev pub SpellsStep : Spec → Line → Type 0
SpellsStep spec line = (s : Step) × (step_of (thread_named spec) line ≡ Some s)

-- it would, if every word were the name of a thread
abbrev pub IsFormOfStep : Line → Type 0
IsFormOfStep line = (s : Step) × (spelled any_word (fields line.text) ≡ Some s)

-- all lines in front of this one spell steps, and there is room for them
pub record IsStepLine (spec : Spec) (bytes : List ℕ) (before : List Line) (line : Line) : Type 0 where
  pub short : length bytes ≤ bytes_limit
  pub after : List Line
  pub split : lines bytes ≡ before ++ line ∷ after
  pub read : (l : Line) → IsIn l before → SpellsStep spec l
  pub room : length before ≤ steps_limit

pub data IsStepFault (spec : Spec) (bytes : List ℕ) (f : TextFault) : Type 0 where
  too_long : bytes_limit < length bytes → f ≡ record { code = StepLimit; first = 0; end = 0; name = [] }
      → IsStepFault spec bytes f
  no_step : (before : List Line) (line : Line) → IsStepLine spec bytes before line → (SpellsStep spec line → ⊥)
      → (IsFormOfStep line → ⊥) → f ≡ at_line line (StepSyntax, []) → IsStepFault spec bytes f
  no_thread : (before : List Line) (line : Line) → IsStepLine spec bytes before line → (SpellsStep spec line → ⊥)
      → IsFormOfStep line
      → f ≡ at_line line (StepUnknown, first_unknown (thread_named spec) (names (fields line.text))) → IsStepFault spec bytes f
  one_step_more : (before : List Line) (line : Line) → IsStepLine spec bytes before line → SpellsStep spec line
      → length before ≡ steps_limit → f ≡ at_line line (StepLimit, []) → IsStepFault spec bytes f

-- each line spells a step, of which there are no more than may be
pub record AreStepsRead (spec : Spec) (bytes : List ℕ) : Type 0 where
  pub short : length bytes ≤ bytes_limit
  pub read : (l : Line) → IsIn l (lines bytes) → SpellsStep spec l
  pub few : length (lines bytes) ≤ steps_limit
