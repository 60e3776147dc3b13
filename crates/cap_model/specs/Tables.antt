-- Tables of edges: lists in the order of edges, with no edge twice.
use Rattle.std.specs.Prelude.{◌≡◌, ◌<◌, ◌≤◌, ℕ, Bool, true, List, length, slice_get, Option, Some, None}
use Rattle.std.specs.List.{list_any}
use Rattle.cap_model.specs.Edges.{edge, same_edge, AtMost, Before}
use Rattle.authorities.specs.declared.authority.Authority.{Authority}
use Rattle.cap_model.specs.declared.edge.Edge.{Edge}

-- whether the list has the edge
abbrev pub has : List Edge → Edge → Bool
has edges e = list_any (λ d. same_edge d e) edges

-- the list has an edge from l to m with the authority a
abbrev pub Has : List Edge → ℕ → Authority → ℕ → Type 0
Has edges l a m = has edges (edge l a m) ≡ true

-- in order, and each edge once
pub record IsSorted (edges : List Edge) : Type 0 where
  pub by_place : (i j : ℕ) (d e : Edge) → i < j → slice_get edges i ≡ Some d → slice_get edges j ≡ Some e → Before d e

-- edges from lesser labels stand before the place, and no others
pub record IsFirstFrom (edges : List Edge) (label : ℕ) (at : ℕ) : Type 0 where
  pub bound : at ≤ length edges
  pub below : (k : ℕ) (d : Edge) → k < at → slice_get edges k ≡ Some d → d.from < label
  pub above : (k : ℕ) (d : Edge) → at ≤ k → slice_get edges k ≡ Some d → label ≤ d.from

-- the least edge with this property, or None where there is none
abbrev pub Finds : (Edge → Type 0) → Option Edge → Type 0
Finds P None = (e : Edge) → P e → ⊥
Finds P (Some e) = P e × ((d : Edge) → P d → AtMost e d)
