-- The text of a path: its names, joined by dots.
use Rattle.std.specs.Prelude.{ℕ, List, [], ◌∷◌, ◌++◌}
use Rattle.std.specs.List.{flat_map}

abbrev pub joined : List (List ℕ) → List ℕ
joined [] = []
joined (n ∷ ns) = n ++ flat_map (λ m. 46 ∷ m) ns
