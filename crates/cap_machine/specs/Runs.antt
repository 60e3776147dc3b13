-- Runs and reach. A run is a list of steps, of any threads in any order, each of which leads from the state that the
-- one before it left. An edge is reached where some run from the boot state leads to a state that has it.
use Rattle.std.specs.Prelude.{◌≡◌, ℕ, List, [], ◌∷◌}
use Rattle.cap_machine.specs.Below.{Authority, Spec, State, boot}
use Rattle.cap_model.specs.Auth.{Auth}
use Rattle.cap_machine.specs.declared.step.Step.{Step}
use Rattle.cap_machine.specs.StepTable.{StepTo}

-- these steps lead from one state to the other
abbrev pub Run : Spec → State → List Step → State → Type 0
Run spec s [] new = new ≡ s
Run spec s (step ∷ steps) new = (mid : State) × StepTo spec s step mid × Run spec mid steps new

-- after some run the state has the edge
abbrev pub Reaches : Spec → List ℕ → ℕ → Authority → ℕ → Type 0
Reaches spec labels l a m = (steps : List Step) × (s : State) × Run spec (boot spec) steps s × Auth spec labels s l a m
