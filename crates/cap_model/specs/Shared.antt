-- Tables in which several labels have the same edges.
use Rattle.std.specs.Prelude.{◌≡◌, ◌<◌, ◌≤◌, ◌*◌, ℕ, List, [], length, map, slice_get, Some}
use Rattle.std.specs.List.{flat_map}
use Rattle.authorities.specs.Authorities.{number_of}
use Rattle.cap_model.specs.Rows.{edge_to}
use Rattle.authorities.specs.declared.authority.Authority.{Authority}
use Rattle.cap_model.specs.declared.edge.Edge.{Edge}
use Rattle.cap_model.specs.declared.rows.Row.{Row}

-- the order of pairs: by the authority's number, then by the label
pub record PairBefore (p : Authority × ℕ) (q : Authority × ℕ) : Type 0 where
  pub by_authority : number_of p.0 ≤ number_of q.0
  pub by_label : number_of p.0 ≡ number_of q.0 → p.1 < q.1

-- out of each label, in order, the edge of each pair, in order
abbrev pub shared_edges : List ℕ → List (Authority × ℕ) → List Edge
shared_edges labels pairs = flat_map (λ l. map (edge_to l) pairs) labels

-- a row for each label, of the first class, where each row has so many edges
pub record AreShared (labels : List ℕ) (count : ℕ) (rows : List Row) : Type 0 where
  pub long : length rows ≡ length labels
  pub label : (i : ℕ) (r : Row) → slice_get rows i ≡ Some r → slice_get labels i ≡ Some r.label
  pub first : (i : ℕ) (r : Row) → slice_get rows i ≡ Some r → r.first ≡ i * count
  pub replies : (i : ℕ) (r : Row) → slice_get rows i ≡ Some r → r.replies.items ≡ []
  pub class : (i : ℕ) (r : Row) → slice_get rows i ≡ Some r → r.class ≡ 0
