-- Words for the contracts of private functions alone: what a search has found, label by label, nearest first.
use Rattle.std.specs.Prelude.{◌≡◌, ◌<◌, ◌≤◌, ◌⊎◌, ℕ, ◌+◌, ◌==◌, ◌&&◌, ◌||◌, Bool, cond, List, [], ◌∷◌, ◌++◌, length, slice_get, slice_set, slice_index_or, Option, Some, None, suc, zero}
use Rattle.std.specs.List.{Contains, count_by}
use Rattle.std.specs.Option.{is_some, is_none}
use Rattle.cap_model.specs.declared.edge.Edge.{Edge}
use Rattle.flow_model.specs.Flow.{goes_along, goes_against}
use Rattle.label_flow.specs.Chain.{Chain, Passes}
use Rattle.label_flow.specs.declared.search.Found.{Found}
use Rattle.label_flow.specs.declared.search.Search.{Search}
use Rattle.label_flow.specs.declared.sources.Sources.{Sources}

-- the label to which something passes by the edge
abbrev pub passed_to : Edge → ℕ → Option ℕ
passed_to e l =
    cond (e.from == l && goes_along e.authority) (Some e.to) (cond (e.to == l && goes_against e.authority) (Some e.from) None)

abbrev pub blank : ℕ → List (Option ℕ)
blank zero = []
blank (suc n) = None ∷ blank n

abbrev pub place_of : List (Option ℕ) → ℕ → Option ℕ
place_of places m = slice_index_or places m None

-- the label itself, or one that has a place
abbrev pub is_source : Sources → ℕ → Bool
is_source s l = l == s.to || is_some (place_of s.places.items l)

abbrev pub IsPlaced : List (Option ℕ) → ℕ → Type 0
IsPlaced places m = (i : ℕ) × (place_of places m ≡ Some i)

-- what is found stays, and a label that isn't found comes behind it
abbrev pub met_found : List (Option ℕ) → List Found → Found → List Found
met_found places found f = cond (is_some (place_of places f.label)) found (found ++ f ∷ [])

abbrev pub met_places : List (Option ℕ) → List Found → Found → List (Option ℕ)
met_places places found f = cond (is_some (place_of places f.label)) places (slice_set places f.label (Some (length found)))

-- found by an edge from what was found before
pub record IsStep (edges : List Edge) (found : List Found) (f : Found) : Type 0 where
  pub before : Found
  pub edge : Edge
  pub there : slice_get found f.previous ≡ Some before
  pub by : slice_get edges f.by ≡ Some edge
  pub passes : Passes edge before.label f.label
  pub deeper : f.depth ≡ before.depth + 1

abbrev pub IsMet : List Edge → ℕ → List Found → Found → Type 0
IsMet edges from found f = ((f.label ≡ from) × (f.depth ≡ 0)) ⊎ IsStep edges found f

-- depths rise in the order found, and no chain is shorter; of those before `done` every edge was looked at
pub record IsSearch (edges : List Edge) (from : ℕ) (found : List Found) (places : List (Option ℕ)) (done : ℕ) : Type 0 where
  pub met : (i : ℕ) (f : Found) → slice_get found i ≡ Some f → IsMet edges from found f
  pub shallow : (i : ℕ) (f : Found) → slice_get found i ≡ Some f → f.depth ≤ i
  pub rising : (i j : ℕ) (f g : Found) → i ≤ j → slice_get found i ≡ Some f → slice_get found j ≡ Some g → f.depth ≤ g.depth
  pub least : (i : ℕ) (f : Found) → slice_get found i ≡ Some f
      → (chain : List Edge) → Chain edges from chain f.label → f.depth ≤ length chain
  pub placed : (m i : ℕ) → place_of places m ≡ Some i → (f : Found) × (slice_get found i ≡ Some f) × (f.label ≡ m)
  pub known : (i : ℕ) (f : Found) → slice_get found i ≡ Some f → IsPlaced places f.label
  pub counted : count_by is_none places + length found ≡ length places
  pub begun : IsPlaced places from
  pub looked : (i : ℕ) (f : Found) → i < done → slice_get found i ≡ Some f
      → (e : Edge) (m : ℕ) → Contains edges e → Passes e f.label m → IsPlaced places m
  pub near : (f : Found) → slice_get found done ≡ Some f
      → (j : ℕ) (g : Found) → slice_get found j ≡ Some g → g.depth ≤ f.depth + 1

-- of the one at `at`, the first k of the edges whose places are in the row were looked at
pub record IsLooking (edges : List Edge) (from : ℕ) (found : List Found) (places : List (Option ℕ)) (at : ℕ)
    (f : Found) (row : List ℕ) (k : ℕ) : Type 0 where
  pub search : IsSearch edges from found places at
  pub there : slice_get found at ≡ Some f
  pub part : (j p : ℕ) (e : Edge) → j < k → slice_get row j ≡ Some p → slice_get edges p ≡ Some e
      → (m : ℕ) → Passes e f.label m → IsPlaced places m

-- the search from `from` over `count` labels
pub record Searches (edges : List Edge) (from : ℕ) (count : ℕ) (s : Search) (done : ℕ) : Type 0 where
  pub start : s.from ≡ from
  pub wide : length s.places.items ≡ count
  pub is : IsSearch edges from s.found.items s.places.items done

pub record Looks (edges : List Edge) (from : ℕ) (count : ℕ) (s : Search) (at : ℕ) (f : Found) (row : List ℕ) (k : ℕ)
    : Type 0 where
  pub start : s.from ≡ from
  pub wide : length s.places.items ≡ count
  pub is : IsLooking edges from s.found.items s.places.items at f row k

-- back from `last` by the edges of `back` one comes to `head`
pub record IsBack (edges : List Edge) (found : List Found) (last : Found) (head : Found) (chain : List Edge) : Type 0 where
  pub place : ℕ
  pub there : slice_get found place ≡ Some head
  pub leads : Chain edges head.label chain last.label
  pub long : head.depth + length chain ≡ last.depth
