-- How the rows and classes of a table are made of edges in order.
use Rattle.std.specs.Prelude.{◌≡◌, ◌⊎◌, ◌<◌, ℕ, List, [], ◌∷◌, ◌++◌, length, slice_get, Option, Some, None, cond}
use Rattle.std.specs.BTreeMap.{get_by}
use Rattle.std.specs.Cmp.Lexicographic.{slice_cmp}
use Rattle.std.specs.declared.cmp.Ordering.{Ordering}
use Rattle.std.specs.Ordering.{nat_cmp, ordering_then, is_eq}
use Rattle.cap_model.specs.Rows.{table_edges, IsTable}
use Rattle.cap_model.specs.Tables.{IsSorted}
use Rattle.authorities.specs.contracts.authority.AuthorityOrd.TheImpl.{ghosts as numbered}
use Rattle.authorities.specs.declared.authority.Authority.{Authority}
use Rattle.cap_model.specs.declared.edge.Edge.{Edge}
use Rattle.cap_model.specs.declared.making.Tabling.{Tabling}
use Rattle.cap_model.specs.declared.rows.Class.{Class}
use Rattle.cap_model.specs.declared.rows.Row.{Row}

-- where an edge goes, and with which authority
abbrev pub pair_of : Edge → Authority × ℕ
pair_of e = (e.authority, e.to)

-- lists of pairs in order: the first pairs that differ decide
abbrev pub list_cmp : List (Authority × ℕ) → List (Authority × ℕ) → Ordering
list_cmp p q = slice_cmp (λ x y. ordering_then (numbered.cmp x.0 y.0) (nat_cmp x.1 y.1)) p q

-- the place of the class with this list
abbrev pub place_in : Tabling → List (Authority × ℕ) → Option ℕ
place_in m pairs = get_by (λ k. list_cmp pairs k.items) m.places

-- these are the rows and classes of the edges
pub record IsMade (edges : List Edge) (m : Tabling) : Type 0 where
  pub table : IsTable m.classes.items m.rows.items
  pub same : table_edges m.classes.items m.rows.items ≡ edges
  pub known : (k : ℕ) (c : Class) → slice_get m.classes.items k ≡ Some c → place_in m c.pairs.items ≡ Some k
  pub only : (q : Class) (k : ℕ) → place_in m q.pairs.items ≡ Some k → (c : Class) × (slice_get m.classes.items k ≡ Some c)
      × (c.pairs.items ≡ q.pairs.items)

-- a class with this list is among the classes, and its place is k
pub record HasOld (old : Tabling) (pairs : List (Authority × ℕ)) (new : Tabling) (k : ℕ) : Type 0 where
  pub there : place_in old pairs ≡ Some k
  pub classes : new.classes.items ≡ old.classes.items
  pub rows : new.rows.items ≡ old.rows.items
  pub places : (q : Class) → place_in new q.pairs.items ≡ place_in old q.pairs.items

-- one has been put behind the others
pub record HasNew (old : Tabling) (label : ℕ) (pairs : List (Authority × ℕ)) (before : ℕ) (new : Tabling) (k : ℕ) : Type 0 where
  pub none : place_in old pairs ≡ None
  pub place : k ≡ length old.classes.items
  pub class : Class
  pub classes : new.classes.items ≡ old.classes.items ++ class ∷ []
  pub label_is : class.label ≡ label
  pub pairs_are : class.pairs.items ≡ pairs
  pub before_is : class.before ≡ before
  pub rows : new.rows.items ≡ old.rows.items
  pub places : (q : Class) → place_in new q.pairs.items ≡ cond (is_eq (list_cmp pairs q.pairs.items)) (Some k)
      (place_in old q.pairs.items)

abbrev pub HasClass : Tabling → ℕ → List (Authority × ℕ) → ℕ → Tabling → ℕ → Type 0
HasClass old label pairs before new k = HasOld old pairs new k ⊎ HasNew old label pairs before new k

-- the edges are in order, and go out of the label
pub record IsRun (label : ℕ) (run : List Edge) : Type 0 where
  pub sorted : IsSorted run
  pub from : (i : ℕ) (e : Edge) → slice_get run i ≡ Some e → e.from ≡ label

-- the row of a run has been put behind those of the edges before it
pub record HasRow (edges : List Edge) (old : Tabling) (label : ℕ) (run : List Edge) (new : Tabling) : Type 0 where
  pub made : IsMade (edges ++ run) new
  pub row : Row
  pub rows : new.rows.items ≡ old.rows.items ++ row ∷ []
  pub label_is : row.label ≡ label

abbrev pub IsPart : Tabling → ℕ → ℕ → List Edge → Tabling → Type 0
IsPart old label first run new =
    (edges : List Edge) → IsMade edges old → first ≡ length edges → ((i : ℕ) (r : Row) → slice_get old.rows.items i ≡ Some r
    → r.label < label)
    → IsSorted (edges ++ run) → HasRow edges old label run new
