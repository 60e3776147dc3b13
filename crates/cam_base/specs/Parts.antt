-- The parts of a text that a byte parts.
use Rattle.std.specs.Prelude.{ℕ, ◌==◌, leb, cond, List, [], length, drop}
use Rattle.std.specs.List.{slice_split}

abbrev pub parts : ℕ → List ℕ → List (List ℕ)
parts separator bytes = slice_split (λ b. b == separator) bytes

-- those from a place on, none past the end
abbrev pub parts_from : ℕ → ℕ → List ℕ → List (List ℕ)
parts_from separator at bytes = cond (leb at (length bytes)) (parts separator (drop at bytes)) []
