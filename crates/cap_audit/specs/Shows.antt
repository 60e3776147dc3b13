-- What a list of steps shows: it is a run, and an edge stands in the state that some front of it leads to.
use Rattle.std.specs.Prelude.{◌≡◌, ℕ, List, ◌++◌}
use Rattle.cap_audit.specs.Below.{Auth, Authority, Run, Spec, State, Step}

-- from s some front of the steps leads to a state that has the edge
pub record Shows (spec : Spec) (labels : List ℕ) (s : State) (steps : List Step) (l : ℕ) (a : Authority) (m : ℕ) : Type 0 where
  pub front : List Step
  pub back : List Step
  pub parts : steps ≡ front ++ back
  pub state : State
  pub run : Run spec s front state
  pub auth : Auth spec labels state l a m

-- the steps lead from s to some state
abbrev pub IsRun : Spec → State → List Step → Type 0
IsRun spec s steps = (new : State) × Run spec s steps new
