-- What replaying steps answers: the edges of the state that they lead to, or the number of the first step that the table
-- refuses, counted from 1, and why.
use Rattle.std.specs.Prelude.{◌≡◌, ◌+◌, ◌↔◌, ℕ, List, length, take, slice_get, Some}
use Rattle.cap_model.specs.Tables.{Has, IsSorted}
use Rattle.authorities.specs.declared.authority.Authority.{Authority}
use Rattle.cap_model.specs.declared.edge.Edge.{Edge}
use Rattle.cap_machine.specs.Checks.{checks, first_failing}
use Rattle.cap_machine.specs.Runs.{Run}
use Rattle.cap_machine.specs.declared.step.Step.{Step}
use Rattle.cap_machine.specs.declared.step.Why.{Why}
use Rattle.cap_model.specs.Auth.{Auth}
use Rattle.cap_model.specs.State.{State, boot}
use Rattle.cap_model.specs.declared.spec.Spec.{Spec}
use Rattle.text_commands.specs.declared.replay.Replayed.{Replayed}
use Rattle.text_commands.specs.declared.replay.Replayed.TheVariants.{Done, Illegal}

-- the edges of a state, in their order
pub record AreEdgesOf (spec : Spec) (labels : List ℕ) (s : State) (edges : List Edge) : Type 0 where
  pub sorted : IsSorted edges
  pub same : (l : ℕ) (a : Authority) (m : ℕ) → Has edges l a m ↔ Auth spec labels s l a m

-- the steps lead to this state, which has these edges
pub record LeadsTo (spec : Spec) (labels : List ℕ) (steps : List Step) (edges : List Edge) : Type 0 where
  pub state : State
  pub run : Run spec (boot spec) steps state
  pub has : AreEdgesOf spec labels state edges

-- the steps before this one are a run, and the table refuses this one
pub record StopsAt (spec : Spec) (steps : List Step) (place : ℕ) (why : Why) : Type 0 where
  pub state : State
  pub run : Run spec (boot spec) (take place steps) state
  pub step : Step
  pub here : slice_get steps place ≡ Some step
  pub refused : first_failing (checks spec state step) ≡ Some why

abbrev pub IsReplayed : Spec → List ℕ → List Step → Replayed → Type 0
IsReplayed spec labels steps (Done count edges) = (count ≡ length steps) × LeadsTo spec labels steps edges
IsReplayed spec labels steps (Illegal number why) = (place : ℕ) × (number ≡ place + 1) × StopsAt spec steps place why
