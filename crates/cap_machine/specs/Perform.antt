-- What a change does to the lists of a state, what room it needs, and whether it takes memory.
use Rattle.std.specs.Prelude.{◌≡◌, ◌<◌, ◌-◌, ◌^◌, ℕ, List, Option, slice_index_or}
use Rattle.cap_machine.specs.Below.{Mapped, Node, State, ThreadState, no_node}
use Rattle.cap_machine.specs.declared.change.Change.{Change}
use Rattle.cap_machine.specs.declared.change.Change.TheVariants.{Add, Call, Reply, ReplyAdd, Root, Space, Map, Bind, Drop, Save, Release, ReleaseAdd}
use Rattle.cap_machine.specs.Decide.{changed}

abbrev pub HasRoom : List Node → ℕ → Type 0
HasRoom nodes c = (slice_index_or nodes c no_node).next < 2 ^ 64 - 1

-- the CNode that the change adds to has a number left
abbrev pub RoomFor : List Node → Change → Type 0
RoomFor nodes (Add node cap) = HasRoom nodes node
RoomFor nodes (ReplyAdd t caller node cap) = HasRoom nodes node
RoomFor nodes (Save t node pending) = HasRoom nodes node
RoomFor nodes (ReleaseAdd node number caller to cap) = HasRoom nodes to
RoomFor nodes _ = Unit {0}

abbrev pub TakesMemory : Change → Type 0
TakesMemory (Add node cap) = Unit {0}
TakesMemory (Call t u grants) = ⊥
TakesMemory (Reply t caller) = ⊥
TakesMemory (ReplyAdd t caller node cap) = Unit {0}
TakesMemory (Root thread node) = ⊥
TakesMemory (Space thread root) = ⊥
TakesMemory (Map more) = Unit {0}
TakesMemory (Bind irq notification) = ⊥
TakesMemory (Drop node number) = ⊥
TakesMemory (Save t node pending) = Unit {0}
TakesMemory (Release node number caller) = ⊥
TakesMemory (ReleaseAdd node number caller to cap) = Unit {0}

abbrev pub parts : List Node → List ThreadState → List (Option ℕ) → List Mapped → State
parts nodes threads irqs mapped = record { nodes = nodes; threads = threads; irqs = irqs; mapped = mapped }

-- the lists before and after are those of the changed state
pub record Turned (change : Change) (s : State) (new : State) : Type 0 where
  pub in_nodes : new.nodes ≡ (changed s change).nodes
  pub in_threads : new.threads ≡ (changed s change).threads
  pub in_irqs : new.irqs ≡ (changed s change).irqs
  pub in_mapped : new.mapped ≡ (changed s change).mapped

pub record Same (s : State) (new : State) : Type 0 where
  pub of_nodes : new.nodes ≡ s.nodes
  pub of_threads : new.threads ≡ s.threads
  pub of_irqs : new.irqs ≡ s.irqs
  pub of_mapped : new.mapped ≡ s.mapped
