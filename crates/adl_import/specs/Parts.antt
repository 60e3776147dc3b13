-- Parts of a path as a program holds them: borrowed, outermost first.
use Rattle.std.specs.Prelude.{ℕ, List, map, reverse}
use Rattle.std.specs.Borrow.{Bor}

abbrev pub parts_of : List (Bor (List ℕ)) → List (List ℕ)
parts_of items = map (λ part. part.now) items

-- the parts from the innermost outwards
abbrev pub inner_first : List (Bor (List ℕ)) → List (List ℕ)
inner_first items = reverse (parts_of items)
