-- Classes of labels: two labels are of one class where the same edges other than Reply go out of both. "The same edge"
-- has the same authority and goes to the same label. The number of a class is the least of its labels.
use Rattle.std.specs.Prelude.{◌≡◌, ◌≢◌, ◌≤◌, ℕ, List, Option, Some, None}
use Rattle.cap_model.specs.Edges.{edge}
use Rattle.cap_model.specs.Tables.{has, Has}
use Rattle.authorities.specs.declared.authority.Authority.{Authority}
use Rattle.authorities.specs.declared.authority.Authority.TheVariants.{Reply}
use Rattle.cap_model.specs.declared.edge.Edge.{Edge}

-- the same edges other than Reply go out of l and of m
abbrev pub OutAlike : List Edge → ℕ → ℕ → Type 0
OutAlike edges l m = (a : Authority) (x : ℕ) → a ≢ Reply → has edges (edge l a x) ≡ has edges (edge m a x)

-- some edge other than Reply goes out of l, and n is the least label that has the same ones
pub record IsLeastAlike (edges : List Edge) (l : ℕ) (n : ℕ) : Type 0 where
  pub some : (a : Authority) × (x : ℕ) × (a ≢ Reply) × Has edges l a x
  pub alike : OutAlike edges l n
  pub least : (m : ℕ) → OutAlike edges l m → n ≤ m

-- the number of a label's class, None where no edge other than Reply goes out of the label
abbrev pub IsClassOf : List Edge → ℕ → Option ℕ → Type 0
IsClassOf edges l None = (a : Authority) (x : ℕ) → a ≢ Reply → Has edges l a x → ⊥
IsClassOf edges l (Some n) = IsLeastAlike edges l n
