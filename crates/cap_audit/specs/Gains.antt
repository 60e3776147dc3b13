-- Words for the contracts of private functions alone: a report in the making, and how it grows.
use Rattle.std.specs.Prelude.{◌≡◌, ◌≢◌, ◌<◌, ◌⊎◌, ℕ, true, List, length, slice_get, slice_index, slice_index_or, Some}
use Rattle.cap_audit.specs.Below.{Authority, Cap, Capability, Contains, Edge, Has, OfCap, Run, Spec, State, Step, boot, content_in, has, label_of, node_at}
use Rattle.cap_audit.specs.Quiet.{Quiet}
use Rattle.cap_audit.specs.Search.{Found, HoldsAt, held_by}
use Rattle.cap_audit.specs.Shows.{Shows}
use Rattle.cap_audit.specs.Spread.{Spread}
use Rattle.cap_audit.specs.declared.found.Pair.{Pair}

-- the steps lead to a state that has all that was found, and show these edges
pub record IsMade (spec : Spec) (labels : List ℕ) (f : Found) (edges : List Edge) (steps : List Step)
    (nexts : List ℕ) : Type 0 where
  pub state : State
  pub run : Run spec (boot spec) steps state
  pub quiet : Quiet spec state
  pub numbers : (c : ℕ) → (node_at state c).next ≡ slice_index nexts c
  pub there : (c i : ℕ) (cap : Cap) → HoldsAt f c i cap → content_in state c i ≡ Some (Capability cap)
  pub shown : (l : ℕ) (a : Authority) (m : ℕ) → Has edges l a m → Shows spec labels (boot spec) steps l a m

-- what contracts see of a report in the making
pub record Made : Type 0 where
  pub spec : Spec
  pub labels : List ℕ
  pub found : Found
  pub faces : List ℕ
  pub heads : List ℕ
  pub edges : List Edge
  pub steps : List Step
  pub nexts : List ℕ

-- the steps show the edges, all of them between different labels
pub record IsSoFar (m : Made) : Type 0 where
  pub made : IsMade m.spec m.labels m.found m.edges m.steps m.nexts
  pub differ : (l : ℕ) (a : Authority) (k : ℕ) → Has m.edges l a k → l ≢ k
  pub as_many : length m.nexts ≡ length m.spec.entries

-- it goes on so, and has every edge with the property that lies between different labels
pub record Gains (P : Edge → Type 0) (m : Made) (new : Made) : Type 0 where
  pub so_far : IsSoFar new
  pub same : new ≡ record m { edges = new.edges; steps = new.steps; nexts = new.nexts }
  pub kept : (e : Edge) → has m.edges e ≡ true → has new.edges e ≡ true
  pub added : (e : Edge) → P e → e.from ≢ e.to → has new.edges e ≡ true

-- edges are put in where they lie between different labels; all else stays
pub record Notes (P : Edge → Type 0) (m : Made) (new : Made) : Type 0 where
  pub same : new ≡ record m { edges = new.edges }
  pub kept : (e : Edge) → has m.edges e ≡ true → has new.edges e ≡ true
  pub added : (e : Edge) → P e → e.from ≢ e.to → has new.edges e ≡ true
  pub only : (e : Edge) → has new.edges e ≡ true → (has m.edges e ≡ true) ⊎ (P e × (e.from ≢ e.to))

-- the property of one of the numbers below n
pub record Below (P : ℕ → Edge → Type 0) (n : ℕ) (e : Edge) : Type 0 where
  pub at : ℕ
  pub less : at < n
  pub by : P at e

-- what an item of the list has
pub record OfSome {A : Type 0} (P : A → Edge → Type 0) (items : List A) (e : Edge) : Type 0 where
  pub item : A
  pub there : Contains items item
  pub by : P item e

-- all of the Spread was found, and what the queue says is held
pub record IsAll (spec : Spec) (f : Found) : Type 0 where
  pub queued : (k : ℕ) (pair : Pair) → slice_get f.queue k ≡ Some pair → Contains (held_by f pair.node) pair.held
  pub every : (c : ℕ) (cap : Cap) → Spread spec c cap
      → (k : ℕ) × (pair : Pair) × (slice_get f.queue k ≡ Some pair) × (pair.node ≡ c)
      × (slice_get f.values pair.held.value ≡ Some cap)

-- what the capability of a pair confers
pub record OfPair (spec : Spec) (labels : List ℕ) (f : Found) (pair : Pair) (e : Edge) : Type 0 where
  pub cap : Cap
  pub is : slice_get f.values pair.held.value ≡ Some cap
  pub of_cap : OfCap spec labels (label_of labels pair.node) cap e

-- what the capability of a pair confers, where its CNode stands for itself
pub record OfFace (spec : Spec) (labels : List ℕ) (f : Found) (faces : List ℕ) (pair : Pair) (e : Edge) : Type 0 where
  pub itself : slice_index_or faces pair.node pair.node ≡ pair.node
  pub by : OfPair spec labels f pair e
