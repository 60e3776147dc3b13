-- Runs of acts: each act leads from the world that the one before it left.
use Rattle.std.specs.Prelude.{◌≡◌, ℕ, Bool, List, [], ◌∷◌}
use Rattle.flow_model.specs.Below.{Spec, filter, label_of}
use Rattle.flow_model.specs.Act.{Act, actor}
use Rattle.flow_model.specs.ActTable.{ActTo}
use Rattle.flow_model.specs.World.{World, IsBoot}

-- these acts lead from one world to the other
abbrev pub ActRun : Spec → World → List Act → World → Type 0
ActRun spec w [] new = new ≡ w
ActRun spec w (act ∷ acts) new = (mid : World) × ActTo spec w act mid × ActRun spec mid acts new

-- some acts lead from a boot world to this one
pub record IsReached (spec : Spec) (w : World) : Type 0 where
  pub first : World
  pub acts : List Act
  pub boots : IsBoot spec first
  pub run : ActRun spec first acts w

-- those of the acts whose actors have labels of the set
abbrev pub acts_in : List ℕ → (ℕ → Bool) → List Act → List Act
acts_in labels inside acts = filter (λ act. inside (label_of labels (actor act))) acts
