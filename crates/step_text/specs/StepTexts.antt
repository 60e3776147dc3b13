-- Texts of steps. Each line that says something spells one step, by its fields.
use Rattle.std.specs.Prelude.{◌≡◌, ℕ, ◌+◌, nat_lt, if◌then◌else◌, List, [], ◌∷◌, length, Option, Some, None, Result, Ok, Err}
use Rattle.step_text.specs.Below.{Line, Refused, Spec, Step, TextFault, filter_map, find, is_none, is_some, lines, option_map, option_or, unwrap_or}
use Rattle.cam_base.specs.declared.error.Refused.TheVariants as refused
use Rattle.cam_base.specs.declared.text_fault.TextCode.TheVariants.{StepSyntax, StepUnknown, StepLimit}
use Rattle.cam_base.specs.Fields.{fields}
use Rattle.cam_base.specs.LineFaults.{Wrong, at_line}
use Rattle.step_text.specs.Spelling.{spelled, any_word, names}
use Rattle.step_text.specs.Threads.{thread_named}

-- the greatest number of steps, and of bytes
abbrev pub steps_limit : ℕ
steps_limit = 100000

abbrev pub bytes_limit : ℕ
bytes_limit = 67108864

-- the step that a line spells, where `place` gives the place of a thread's name
abbrev pub step_of : (List ℕ → Option ℕ) → Line → Option Step
step_of place line = spelled place (fields line.text)

-- the first of the names that is no thread's
abbrev pub first_unknown : (List ℕ → Option ℕ) → List (List ℕ) → List ℕ
first_unknown place names = unwrap_or (find (λ name. is_none (place name)) names) []

-- what is wrong with fields that spell no step: they would if every word named a thread, or they are of no step's form
abbrev pub misspelled : (List ℕ → Option ℕ) → List (List ℕ) → Wrong
misspelled place fields = if is_some (spelled any_word fields) then (StepUnknown, first_unknown place (names fields)) else
    (StepSyntax, [])

-- what is wrong with a step, where so many stand before it
abbrev pub past_limit : ℕ → Option Wrong
past_limit before = if nat_lt before steps_limit then None else Some (StepLimit, [])

-- what is wrong with fields
abbrev pub wrong : (List ℕ → Option ℕ) → ℕ → List (List ℕ) → Option Wrong
wrong place before fields = if is_some (spelled place fields) then past_limit before else Some (misspelled place fields)

-- the fault of a line, where so many stand before it
abbrev pub fault_of : (List ℕ → Option ℕ) → ℕ → Line → Option TextFault
fault_of place before line = option_map (at_line line) (wrong place before (fields line.text))

-- the first fault of lines, where so many stand before them
abbrev pub first_fault_of : (List ℕ → Option ℕ) → ℕ → List Line → Option TextFault
first_fault_of place before [] = None
first_fault_of place before (line ∷ more) = option_or (fault_of place before line) (first_fault_of place (before + 1) more)

-- the first fault of a text
abbrev pub first_fault : Spec → List ℕ → Option TextFault
first_fault spec bytes =
    if nat_lt bytes_limit (length bytes) then Some (record { code = StepLimit; first = 0; end = 0; name = [] })
    else first_fault_of (thread_named spec) 0 (lines bytes)

-- the steps that the lines of a text spell, in order
abbrev pub steps_of : Spec → List ℕ → List Step
steps_of spec bytes = filter_map (step_of (thread_named spec)) (lines bytes)

-- What a reader of a text answers: its steps, where no fault stands; or the first fault; or that memory ran out.
abbrev pub IsRead : Spec → List ℕ → Result (List Step) (Refused TextFault) → Type 0
IsRead spec bytes (Ok steps) = (first_fault spec bytes ≡ None) × (steps ≡ steps_of spec bytes)
IsRead spec bytes (Err (refused.Fault fault)) = first_fault spec bytes ≡ Some fault
IsRead spec bytes (Err refused.NoMemory) = Unit {0}
