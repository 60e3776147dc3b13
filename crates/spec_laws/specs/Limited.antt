-- What layouts keep whose tables are sized: no limit is passed, each stack has a page, and memory is seen in some domain.
-- Layouts of a source without faults keep it.
use Rattle.std.specs.Prelude.{◌≡◌, ◌≤◌, ◌⊎◌, ℕ, length, slice_get, Some, sum}
use Rattle.spec_laws.specs.Below.{Connector, Domain, EndAt, FlatConnection, Given, IsIn, Mmio, SharedMemory, ThreadOf, page_counts, slots_of, stack_pages, table_counts, threads_of, windows_of}
use Rattle.cspace_layout.specs.SlotFaults.{counts}

abbrev pub HasMemory : Connector → Type 0
HasMemory c = (c ≡ SharedMemory) ⊎ (c ≡ Mmio)

-- an end of connection k has a window in a domain
pub record IsSeen (g : Given) (k : ℕ) : Type 0 where
  pub place : ℕ
  pub domain : Domain
  pub here : slice_get g.flat.domains place ≡ Some domain
  pub end : EndAt
  pub window : IsIn end (windows_of g place)
  pub joins : end.connection ≡ k

pub record IsLimited (g : Given) : Type 0 where
  pub domains : length g.flat.domains ≤ 1024
  pub connections : length g.flat.connections ≤ 4096
  pub uses : sum (counts (slots_of g.source g.flat)) ≤ 65536
  pub pages : sum (page_counts g) ≤ 65536
  pub tables : sum (table_counts g) ≤ 65536
  pub stacks : (d : ℕ) (x : ThreadOf) → IsIn x (threads_of g d) → 1 ≤ stack_pages g.settled x.leaf
  pub seen : (k : ℕ) (c : FlatConnection) → slice_get g.flat.connections k ≡ Some c → HasMemory c.connector → IsSeen g k
