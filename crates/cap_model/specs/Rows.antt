-- How a table keeps its edges. A class is a list of pairs (authority, label), without Reply, that labels share; a row is
-- a label with its class and the labels that it may reply to.
use Rattle.std.specs.Prelude.{◌≡◌, ◌<◌, ◌≤◌, ℕ, List, [], ◌++◌, length, take, drop, map, slice_get, Option, Some, None}
use Rattle.std.specs.List.{flat_map}
use Rattle.authorities.specs.Authorities.{number_of}
use Rattle.cap_model.specs.Edges.{edge}
use Rattle.cap_model.specs.Tables.{IsSorted}
use Rattle.authorities.specs.declared.authority.Authority.{Authority}
use Rattle.authorities.specs.declared.authority.Authority.TheVariants.{Reply}
use Rattle.cap_model.specs.declared.edge.Edge.{Edge}
use Rattle.cap_model.specs.declared.rows.Class.{Class}
use Rattle.cap_model.specs.declared.rows.Row.{Row}

-- the edge out of a label that a pair stands for
abbrev pub edge_to : ℕ → Authority × ℕ → Edge
edge_to l p = edge l p.0 p.1

abbrev pub reply_to : ℕ → ℕ → Edge
reply_to l m = edge l Reply m

-- the edges out of a label, in order: the pairs before Reply, the replies, the pairs behind it
abbrev pub edges_of : Option Class → Row → List Edge
edges_of None r = []
edges_of (Some c) r =
    map (edge_to r.label) (take c.before c.pairs.items)
    ++ (map (reply_to r.label) r.replies.items ++ map (edge_to r.label) (drop c.before c.pairs.items))

-- the edges of a table: those of each row, one row behind another
abbrev pub table_edges : List Class → List Row → List Edge
table_edges classes rows = flat_map (λ r. edges_of (slice_get classes r.class) r) rows

-- the pairs of a class are in order, none is of Reply, and `before` of them come before Reply
pub record IsClass (c : Class) : Type 0 where
  pub within : c.before ≤ length c.pairs.items
  pub sorted : IsSorted (map (edge_to 0) c.pairs.items)
  pub front : (i : ℕ) (p : Authority × ℕ) → i < c.before → slice_get c.pairs.items i ≡ Some p → number_of p.0 < number_of Reply
  pub back : (i : ℕ) (p : Authority × ℕ) → c.before ≤ i → slice_get c.pairs.items i ≡ Some p → number_of Reply < number_of p.0

-- each label is less than those behind it
pub record HasRising (rows : List Row) : Type 0 where
  pub by_place : (i j : ℕ) (r s : Row) → i < j → slice_get rows i ≡ Some r → slice_get rows j ≡ Some s → r.label < s.label

-- each row has the place of its first edge
pub record HasPlaces (classes : List Class) (rows : List Row) : Type 0 where
  pub first : (i : ℕ) (r : Row) → slice_get rows i ≡ Some r → r.first ≡ length (table_edges classes (take i rows))

-- the first places don't fall
pub record FirstsRise (rows : List Row) : Type 0 where
  pub by_place : (i j : ℕ) (r s : Row) → i ≤ j → slice_get rows i ≡ Some r → slice_get rows j ≡ Some s → r.first ≤ s.first

-- the row of a label, or that there is none
abbrev pub IsRowOf : List Row → ℕ → Row → Type 0
IsRowOf rows label r = (i : ℕ) × (slice_get rows i ≡ Some r) × (r.label ≡ label)

abbrev pub NoRowOf : List Row → ℕ → Type 0
NoRowOf rows label = (i : ℕ) (r : Row) → slice_get rows i ≡ Some r → r.label ≡ label → ⊥

-- rows of lesser labels stand before the place, and no others
pub record IsRowFrom (rows : List Row) (label : ℕ) (at : ℕ) : Type 0 where
  pub bound : at ≤ length rows
  pub below : (k : ℕ) (r : Row) → k < at → slice_get rows k ≡ Some r → r.label < label
  pub above : (k : ℕ) (r : Row) → at ≤ k → slice_get rows k ≡ Some r → label ≤ r.label

-- rows that begin at an edge's place or before it stand before the place, and no others
pub record IsRowPast (rows : List Row) (edge_place : ℕ) (at : ℕ) : Type 0 where
  pub bound : at ≤ length rows
  pub below : (k : ℕ) (r : Row) → k < at → slice_get rows k ≡ Some r → r.first ≤ edge_place
  pub above : (k : ℕ) (r : Row) → at ≤ k → slice_get rows k ≡ Some r → edge_place < r.first

-- what the rows and classes of a table keep
pub record IsTable (classes : List Class) (rows : List Row) : Type 0 where
  pub sorted : IsSorted (table_edges classes rows)
  pub rising : HasRising rows
  pub places : HasPlaces classes rows
  -- each row has a class, whose least label isn't greater
  pub classed : (i : ℕ) (r : Row) → slice_get rows i ≡ Some r → r.class < length classes
  pub least : (i : ℕ) (r : Row) (c : Class) → slice_get rows i ≡ Some r → slice_get classes r.class ≡ Some c → c.label ≤ r.label
  pub replies : (i : ℕ) (r : Row) → slice_get rows i ≡ Some r → IsSorted (map (reply_to 0) r.replies.items)
  pub lists : (k : ℕ) (c : Class) → slice_get classes k ≡ Some c → IsClass c
  -- the least label of a class is one of its labels
  pub numbered : (k : ℕ) (c : Class) → slice_get classes k ≡ Some c → (i : ℕ) × (r : Row) × (slice_get rows i ≡ Some r)
      × (r.class ≡ k) × (r.label ≡ c.label)
  -- no two classes have one list
  pub apart : (j k : ℕ) (c d : Class) → slice_get classes j ≡ Some c → slice_get classes k ≡ Some d
      → c.pairs.items ≡ d.pairs.items → j ≡ k
