-- The label of each object, by the object's place in its spec; 0 where none is told.
use Rattle.std.specs.Prelude.{ℕ, List, slice_index}

abbrev pub label_of : List ℕ → ℕ → ℕ
label_of labels object = slice_index labels object
