-- Nothing stands twice in a list.
use Rattle.std.specs.Prelude.{List, [], ◌∷◌}
use Rattle.cam_base.specs.Gather.{IsIn}

abbrev pub IsOnce : {X : Type 0} → List X → Type 0
IsOnce [] = Unit {0}
IsOnce (x ∷ xs) = (IsIn x xs → ⊥) × IsOnce xs
