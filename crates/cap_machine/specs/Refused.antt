-- What `apply` says where it refuses: the first answer of the stated order, and then the table has no next state; or
-- want of memory, for the steps that may take memory.
use Rattle.std.specs.Prelude.{◌≡◌, Some, None}
use Rattle.cap_machine.specs.Below.{Spec, State}
use Rattle.cap_machine.specs.declared.step.Step.{Step}
use Rattle.cap_machine.specs.declared.step.Step.TheVariants.{Take, Put, Grant, Call, Reply, SetCspace, SetVspace, Map, Bind, Drop, Save, ReplyTo}
use Rattle.cap_machine.specs.declared.state.StepError.{StepError}
use Rattle.cap_machine.specs.declared.state.StepError.TheVariants.{Illegal, NoMemory}
use Rattle.cap_machine.specs.Checks.{checks, first_failing}
use Rattle.cap_machine.specs.StepTable.{StepTo}

-- copies, saved replies and added frames take memory
abbrev pub MayTakeMemory : Step → Type 0
MayTakeMemory (Take t i j r) = Unit {0}
MayTakeMemory (Put t i j r) = Unit {0}
MayTakeMemory (Grant t i u j k r) = Unit {0}
MayTakeMemory (Call t i u j) = ⊥
MayTakeMemory (Reply t None) = ⊥
MayTakeMemory (Reply t (Some copy)) = Unit {0}
MayTakeMemory (SetCspace t i j) = ⊥
MayTakeMemory (SetVspace t i j) = ⊥
MayTakeMemory (Map t i j r) = Unit {0}
MayTakeMemory (Bind t i j) = ⊥
MayTakeMemory (Drop t i) = ⊥
MayTakeMemory (Save t) = Unit {0}
MayTakeMemory (ReplyTo t i None) = ⊥
MayTakeMemory (ReplyTo t i (Some copy)) = Unit {0}

abbrev pub Refused : Spec → State → Step → StepError → Type 0
Refused spec s step (Illegal why) = (first_failing (checks spec s step) ≡ Some why) × ((new : State) → StepTo spec s step new → ⊥)
Refused spec s step NoMemory = MayTakeMemory step
