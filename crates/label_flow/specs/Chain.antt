-- Chains of edges, by each of which something passes on, and what is answered of two labels: a shortest chain from one to
-- the other, or none, and then a set into which nothing flows has the second and not the first. And the labels that can come
-- to influence a label.
use Rattle.std.specs.Prelude.{◌≡◌, ◌≤◌, ◌↔◌, ℕ, Bool, true, false, List, [], ◌∷◌, length, Option, Some, None}
use Rattle.std.specs.List.{Contains}
use Rattle.cap_model.specs.declared.edge.Edge.{Edge}
use Rattle.flow_model.specs.Flow.{goes_along, goes_against, IsClosed}

-- by this edge something passes from l to m
pub data Passes (e : Edge) (l : ℕ) (m : ℕ) : Type 0 where
  from_holder : goes_along e.authority ≡ true → l ≡ e.from → m ≡ e.to → Passes e l m
  to_holder : goes_against e.authority ≡ true → l ≡ e.to → m ≡ e.from → Passes e l m

-- by these edges, one after the other
abbrev pub Chain : List Edge → ℕ → List Edge → ℕ → Type 0
Chain edges l [] m = l ≡ m
Chain edges l (e ∷ chain) m = (mid : ℕ) × Contains edges e × Passes e l mid × Chain edges mid chain m

-- a set into which nothing flows has the second and not the first
pub record IsApart (edges : List Edge) (from : ℕ) (to : ℕ) : Type 0 where
  pub inside : ℕ → Bool
  pub closed : IsClosed edges inside
  pub has : inside to ≡ true
  pub lacks : inside from ≡ false

pub record IsShortest (edges : List Edge) (from : ℕ) (to : ℕ) (chain : List Edge) : Type 0 where
  pub leads : Chain edges from chain to
  pub least : (other : List Edge) → Chain edges from other to → length chain ≤ length other

abbrev pub IsFlow : List Edge → ℕ → ℕ → Option (List Edge) → Type 0
IsFlow edges from to None = IsApart edges from to
IsFlow edges from to (Some chain) = IsShortest edges from to chain

-- l is told as one of them exactly where a chain leads from l to this label
abbrev pub AreSources : List Edge → ℕ → (ℕ → Bool) → Type 0
AreSources edges to has = (l : ℕ) → (has l ≡ true) ↔ ((chain : List Edge) × Chain edges l chain to)
