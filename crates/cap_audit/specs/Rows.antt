-- Words for the contracts of private functions alone: lists by objects.
use Rattle.std.specs.Prelude.{ℕ, List, [], ◌∷◌, ◌++◌, slice_index_or, slice_set}

-- the list of an object
abbrev pub row_at : {A : Type 0} → List (List A) → ℕ → List A
row_at rows o = slice_index_or rows o []

-- an item more in it
abbrev pub with_more : {A : Type 0} → List (List A) → ℕ → A → List (List A)
with_more rows o x = slice_set rows o (row_at rows o ++ x ∷ [])
