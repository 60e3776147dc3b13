-- Threads that run programs: what a thread attempts next depends on what it has seen, and on nothing else. When it is whose
-- turn is open, and so is what interrupts and devices bring.
use Rattle.std.specs.Prelude.{◌≡◌, ◌⊎◌, ℕ, Bool, true, List, [], ◌∷◌, Option, Some, None}
use Rattle.flow_model.specs.Below.{Spec}
use Rattle.flow_model.specs.Act.{Act, Attempt, actor, allowed, refused, fire, device}
use Rattle.flow_model.specs.ActTable.{ActTo}
use Rattle.flow_model.specs.Agree.{in_set}
use Rattle.flow_model.specs.World.{World, Sight}

-- for each thread what it attempts next, having seen all this
abbrev pub Programs : Type 0
Programs = ℕ → List Sight → Attempt

-- the act itself, where an interrupt or a device acts
abbrev pub input_of : Act → Option Act
input_of (fire d x) = Some (fire d x)
input_of (device f x) = Some (device f x)
input_of _ = None

-- whose turn it is, and what is brought
abbrev pub turn_of : Act → ℕ × Option Act
turn_of act = (actor act, input_of act)

-- what the program of a thread says next
abbrev pub says : Programs → World → ℕ → Attempt
says programs w t = programs t (w.seen t)

-- a thread does what its program says, or is refused it
abbrev pub Obeys : Programs → World → Act → Type 0
Obeys programs w act =
    input_of act ≡ None → (act ≡ allowed (says programs w (actor act))) ⊎ (act ≡ refused (says programs w (actor act)))

-- a run of acts in which the threads with labels of the set do so
abbrev pub ProgramRun : Spec → Programs → List ℕ → (ℕ → Bool) → World → List Act → World → Type 0
ProgramRun spec programs labels inside w [] new = new ≡ w
ProgramRun spec programs labels inside w (act ∷ acts) new =
    (mid : World) × ActTo spec w act mid × (in_set labels inside (actor act) ≡ true → Obeys programs w act)
    × ProgramRun spec programs labels inside mid acts new
