-- Cycles of components, which hold each other. Each cycle has the number of one of its components. Where a component and
-- the type of one of its instances are of two cycles, the rank of the second is greater, so that no walk leads back.
use Rattle.std.specs.Prelude.{◌≡◌, ◌<◌, ◌↔◌, ◌⊎◌, ◌^◌, ℕ, true, List, length, slice_index, Option, Some, None}
use Rattle.adl_meaning.specs.Graph.{has, inner_of, InRange, Holds}

pub record AreCycleNumbers (g : List (List ℕ)) (number rank : ℕ → ℕ) : Type 0 where
  pub rises : (a c : ℕ) → a < length g → has (inner_of g a) c ≡ true → (number c ≡ number a) ⊎ (rank (number a) < rank (number c))
  pub inwards : (a : ℕ) → a < length g → Holds g a (number a)
  pub outwards : (a : ℕ) → a < length g → Holds g (number a) a

-- the type of an instance holds the component that the instance stands in exactly where both have one number
pub record TellCycles (g : List (List ℕ)) (numbers : List ℕ) : Type 0 where
  pub size : length numbers ≡ length g
  pub exact : (a c : ℕ) → a < length g → has (inner_of g a) c ≡ true → (slice_index numbers c ≡ slice_index numbers a)
      ↔ Holds g c a

abbrev pub MayTell : List (List ℕ) → Option (List ℕ) → Type 0
MayTell g None = Unit {0}
MayTell g (Some numbers) = TellCycles g numbers

-- what a graph with its cycles is: every type is a component, there are few, and the numbers tell the cycles
pub record IsTold (g : List (List ℕ)) (numbers : Option (List ℕ)) : Type 0 where
  pub range : InRange g
  pub few : length g < 2 ^ 32
  pub told : MayTell g numbers

-- the components that each one is inner to, as far as they are listed
pub record IsTurned (g turned : List (List ℕ)) : Type 0 where
  pub size : length turned ≡ length g
  pub edges : (c a : ℕ) → has (inner_of turned c) a ≡ true → (a < length g) × (has (inner_of g a) c ≡ true)

-- each component with a root is held by it; a number that is no component's stands for none
pub record AreRoots (g : List (List ℕ)) (roots : List ℕ) : Type 0 where
  pub size : length roots ≡ length g
  pub held : (x : ℕ) → x < length g → slice_index roots x < length g → Holds g (slice_index roots x) x

-- the root holds each component that waits
abbrev pub AreHeldBy : List (List ℕ) → ℕ → List ℕ → Type 0
AreHeldBy g root waiting = (x : ℕ) → has waiting x ≡ true → (x < length g) × Holds g root x
