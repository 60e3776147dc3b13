-- That a command has one answer: whatever fits the same contents is the same, aside from read faults and want of memory.
use Rattle.std.specs.Prelude.{◌≡◌, [], Result, Ok, Err}
use Rattle.text_commands.specs.InputErrors.{InputError}
use Rattle.cam_base.specs.declared.error.Unread.TheVariants.{Fault, ReadFault, NoMemory}
use Rattle.text_commands.specs.declared.outcome.Outcome.{Outcome}
use Rattle.text_commands.specs.declared.outcome.Outcome.TheVariants.{Audited, Certified, Checked, Planned, Ran, Tabled}

-- any result but a read fault and want of memory
abbrev pub IsAnswer : {A : Type 0} → Result A InputError → Type 0
IsAnswer (Ok x) = Unit {0}
IsAnswer (Err (Fault fault file)) = Unit {0}
IsAnswer (Err (ReadFault file)) = ⊥
IsAnswer (Err NoMemory) = ⊥

-- an answer that fits here is each that fits there
abbrev pub AreOne : {A : Type 0} → (Result A InputError → Type 0) → (Result A InputError → Type 0) → Type 0
AreOne {A} FitsHere FitsThere = (a b : Result A InputError) → IsAnswer a → IsAnswer b → FitsHere a → FitsThere b → a ≡ b

-- ---- answers that leave a choice: which steps show the edges of a report, and at which places objects stand

abbrev pub but_choice : Outcome → Outcome
but_choice (Checked verdict labels) = Checked verdict labels
but_choice (Ran replayed labels) = Ran replayed labels
but_choice (Tabled image) = Tabled image
but_choice (Audited report spec labels) = Audited (record { edges = report.edges; steps = [] }) spec labels
but_choice (Certified cert) = Certified cert
but_choice (Planned plan spec) = Planned (record { places = [] }) spec

abbrev pub answer_but_choice : Result Outcome InputError → Result Outcome InputError
answer_but_choice (Ok outcome) = Ok (but_choice outcome)
answer_but_choice (Err error) = Err error

-- an answer that fits here is each that fits there, but for the choice
abbrev pub AreOneButChoice : (Result Outcome InputError → Type 0) → (Result Outcome InputError → Type 0) → Type 0
AreOneButChoice FitsHere FitsThere =
    (a b : Result Outcome InputError) → IsAnswer a → IsAnswer b → FitsHere a → FitsThere b
    → answer_but_choice a ≡ answer_but_choice b
