-- What the layout of spaces asks of settings. Sizes are whole pages, one at least, and at most 65,536; registers stand below
-- 2^48; connections are at most 4,096. Whoever has the settings of a source without faults shows it from the bounds of their
-- values and of the source's sizes.
use Rattle.std.specs.Prelude.{◌≡◌, ◌<◌, ◌≤◌, ◌+◌, ◌*◌, ◌^◌, ℕ, length, slice_get, Some}
use Rattle.vspace_layout.specs.Below.{EndAt, Flat, FlatConnection, IsIn, Settled}
use Rattle.vspace_layout.specs.Given.{Given}
use Rattle.vspace_layout.specs.Memory.{memory_paddr, memory_pages}
use Rattle.vspace_layout.specs.Regions.{window_pages, windows_of}

-- the memory of a connection has at most 65,536 pages
abbrev pub MemoryFits : Flat → Settled → Type 0
MemoryFits flat settled = (k : ℕ) (c : FlatConnection) → slice_get flat.connections k ≡ Some c → memory_pages settled k c ≤ 65536

-- it ends below 2^48
abbrev pub AddressesFit : Flat → Settled → Type 0
AddressesFit flat settled = (k : ℕ) (c : FlatConnection) → slice_get flat.connections k ≡ Some c
    → memory_paddr settled k c + 4096 * memory_pages settled k c ≤ 2 ^ 48

pub record CanLay (t : Given) : Type 0 where
  pub domains : length t.flat.domains < 2 ^ 32
  pub connections : length t.flat.connections ≤ 4096
  pub windows : (d : ℕ) (e : EndAt) → IsIn e (windows_of t d) → 0 < window_pages t.flat t.settled e
  pub memory : MemoryFits t.flat t.settled
  pub addresses : AddressesFit t.flat t.settled
