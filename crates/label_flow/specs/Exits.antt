-- Words for the contracts of private functions alone: the edges at each label, by their places among all edges.
use Rattle.std.specs.Prelude.{◌≡◌, ◌<◌, ℕ, List, [], ◌∷◌, ◌++◌, length, slice_get, slice_set, slice_index_or, Some, suc, zero}
use Rattle.std.specs.List.{Contains}
use Rattle.cap_model.specs.declared.edge.Edge.{Edge}

abbrev pub exits_of : List (List ℕ) → ℕ → List ℕ
exits_of exits l = slice_index_or exits l []

abbrev pub more_exits : List (List ℕ) → ℕ → ℕ → List (List ℕ)
more_exits exits l k = slice_set exits l (exits_of exits l ++ k ∷ [])

abbrev pub no_exits : ℕ → List (List ℕ)
no_exits zero = []
no_exits (suc n) = [] ∷ no_exits n

-- each of the first `done` edges stands at both of its labels
pub record AreExits (edges : List Edge) (count : ℕ) (done : ℕ) (exits : List (List ℕ)) : Type 0 where
  pub wide : length exits ≡ count
  pub inside : (l k : ℕ) → Contains (exits_of exits l) k → k < length edges
  pub all : (k : ℕ) (e : Edge) → k < done → slice_get edges k ≡ Some e
      → Contains (exits_of exits e.from) k × Contains (exits_of exits e.to) k
