-- Those of a set of labels are separated from all others: of any acts, from any moment on, leave out all that are by objects
-- of other labels. The rest can be done from any world that agrees on the set, and the worlds at the end agree on it.
--
-- A world from which acts go on is a boot world, or one that acts led to from a boot world.
use Rattle.std.specs.Prelude.{ℕ, Bool, List}
use Rattle.flow_model.specs.Below.{Spec}
use Rattle.flow_model.specs.Act.{Act}
use Rattle.flow_model.specs.ActRuns.{ActRun, IsReached, acts_in}
use Rattle.flow_model.specs.Agree.{Agree}
use Rattle.flow_model.specs.World.{World}

abbrev pub Separates : Spec → List ℕ → (ℕ → Bool) → Type 0
Separates spec labels inside =
    (w v new : World) (acts : List Act) → IsReached spec w → IsReached spec v → Agree labels inside w v → ActRun spec w acts new
    → (end : World) × ActRun spec v (acts_in labels inside acts) end × Agree labels inside new end
