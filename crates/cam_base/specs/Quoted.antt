-- What stands between quotes or brackets.
use Rattle.std.specs.Prelude.{ℕ, List, [], ◌∷◌, ◌-◌, length, take}

-- the bytes between the first and the last: a text without its quotes, a path without its angle brackets
abbrev pub inner : List ℕ → List ℕ
inner [] = []
inner (b ∷ bs) = take (length bs - 1) bs
