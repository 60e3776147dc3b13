-- Fields: little-endian numbers of so many bytes at a place.
use Rattle.std.specs.Prelude.{ℕ, ◌+◌, ◌*◌, List, [], ◌∷◌}
use Rattle.std.specs.List.{slice_range}

-- the number that bytes write, the lowest first
abbrev pub little : List ℕ → ℕ
little [] = 0
little (b ∷ bs) = b + 256 * little bs

-- the number of `size` bytes from a place on
abbrev pub field : List ℕ → ℕ → ℕ → ℕ
field bytes at size = little (slice_range bytes at (at + size))
