-- What the references of a list point to.
use Rattle.std.specs.Prelude.{List, map}
use Rattle.std.specs.Borrow.{Bor}

abbrev pub pointed : {X : Type 0} → List (Bor X) → List X
pointed rs = map (λ r. r.now) rs
