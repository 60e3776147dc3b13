-- How components are placed, each after its inner ones, the types of its instances.
use Rattle.std.specs.Prelude.{◌≡◌, ◌<◌, ◌≤◌, ℕ, true, false, ◌||◌, ◌⊎◌, List, length, take, slice_index}
use Rattle.adl_meaning.specs.Graph.{has, inner_of}
use Rattle.adl_hierarchy.specs.Sets.{Numbers}
use Rattle.adl_hierarchy.specs.declared.placing.Placing.{Placing}

-- as far as order goes, each component comes after its inner ones
abbrev pub IsLaid : List (List ℕ) → List ℕ → Type 0
IsLaid g order = (i c : ℕ) → i < length order → has (inner_of g (slice_index order i)) c ≡ true → has (take i order) c ≡ true

-- what holds throughout: a component is past inner ones that are placed
pub record IsPlacing (g : List (List ℕ)) (p : Placing) : Type 0 where
  pub size : p.placed.size ≡ length g
  pub pasts : length p.past.items ≡ length g
  pub lists : length p.waiting.items ≡ length g
  pub laid : IsLaid g p.placed.list
  pub past : (a c : ℕ) → a < length g → has (take (slice_index p.past.items a) (inner_of g a)) c ≡ true
      → has p.placed.list c ≡ true
  pub below : (a c : ℕ) → has (inner_of p.waiting.items c) a ≡ true → a < length g

-- the component is placed, or waits for an inner one that isn't among the first n
abbrev pub Waits : List (List ℕ) → ℕ → Placing → ℕ → Type 0
Waits g n p a = (has p.placed.list a ≡ true)
    ⊎ ((c : ℕ) × (has (inner_of g a) c ≡ true) × (has (inner_of p.waiting.items c) a ≡ true)
    × (has (take n p.placed.list) c ≡ false))

-- each of the components came to wait or was placed, and each other one still is or does
pub record Settles (g : List (List ℕ)) (old new : Placing) (P : ℕ → Type 0) : Type 0 where
  pub longer : length old.placed.list ≤ length new.placed.list
  pub kept : (n x : ℕ) → n ≤ length old.placed.list → Waits g n old x → Waits g n new x
  pub each : (n x : ℕ) → n ≤ length old.placed.list → P x → Waits g n new x

-- each component is placed or has an inner one that isn't
abbrev pub IsAtEnd : List (List ℕ) → List ℕ → Type 0
IsAtEnd g order = (a : ℕ) → a < length g
    → (has order a ≡ true) ⊎ ((c : ℕ) × (has (inner_of g a) c ≡ true) × (has order c ≡ false))

-- the new set has the old one as its front, and the numbers of more besides
pub record HasMore (more : List ℕ) (old new : Numbers) : Type 0 where
  pub size : new.size ≡ old.size
  pub front : take (length old.list) new.list ≡ old.list
  pub longer : length old.list ≤ length new.list
  pub each : (x : ℕ) → has new.list x ≡ (has old.list x || has more x)
