-- Lists in order.
use Rattle.std.specs.Prelude.{◌≡◌, List, [], ◌∷◌, ◌++◌}
use Rattle.cam_base.specs.Gather.{IsIn}

-- each element stands so to each behind it
abbrev pub InOrder : {X : Type 0} → (X → X → Type 0) → List X → Type 0
InOrder R [] = Unit {0}
InOrder R (x ∷ xs) = ((y : _) → IsIn y xs → R x y) × InOrder R xs

-- a stands before b in the list
pub record IsBefore {X : Type 0} (xs : List X) (a b : X) : Type 0 where
  pub front : List X
  pub between : List X
  pub rest : List X
  pub split : xs ≡ front ++ a ∷ (between ++ b ∷ rest)
