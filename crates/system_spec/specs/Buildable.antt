-- What the making of a spec and of the map ask of the tables. Slots and spaces that were laid out for a system without faults,
-- within its limits, keep it.
use Rattle.std.specs.Prelude.{◌≡◌, ◌<◌, ◌+◌, ◌*◌, ◌^◌, ◌⊎◌, ℕ, List, Some, map, length, slice_get}
use Rattle.system_spec.specs.Below.{Handler, IsIn, OfEnd, OwnLock, Page, SlotUse, Window, layers, shapes, sizes}
use Rattle.page_tables.specs.Runs.{Rises}
use Rattle.system_spec.specs.Parts.{page_mapping, parts}
use Rattle.system_spec.specs.Tables.{Tables, arch, pages_at, threads_at, uses_at, windows_at}

-- ---- all numbers are below 2^32

-- how many page tables a domain has
abbrev pub table_count : Tables → ℕ → ℕ → ℕ
table_count t frames d = sizes (layers (shapes (arch t)) (map (page_mapping frames) (pages_at t d)))

-- the frame of a page has a number of 32 bits, where frame 0 stands there
abbrev pub IsShown : ℕ → Page → Type 0
IsShown frames p = (frames ≡ 0) ⊎ (frames + p.frame < 2 ^ 32)

abbrev pub AreShown : ℕ → List Page → Type 0
AreShown frames pages = (p : Page) → IsIn p pages → IsShown frames p

pub record AreFew (t : Tables) : Type 0 where
  pub domains : length t.flat.domains < 2 ^ 32
  pub connections : length t.flat.connections < 2 ^ 32
  pub threads : (d : ℕ) → length (threads_at t d) < 2 ^ 32
  pub uses : (d : ℕ) → length (uses_at t d) < 2 ^ 32
  pub tables : (d : ℕ) → table_count t 0 d < 2 ^ 32
  pub objects : length (parts t) < 2 ^ 32

-- ---- the uses of slots name connections that there are

abbrev pub NamesOneOf : ℕ → SlotUse → Type 0
NamesOneOf count (OfEnd k n) = k < count
NamesOneOf count (Handler k n) = k < count
NamesOneOf count (OwnLock leaf m) = Unit {0}

abbrev pub AreNamed : ℕ → List SlotUse → Type 0
AreNamed count uses = (n : ℕ) (u : SlotUse) → slice_get uses n ≡ Some u → NamesOneOf count u

-- ---- all

pub record IsBuildable (t : Tables) : Type 0 where
  -- lists and the whole are shorter than 2^32
  pub few : AreFew t
  -- each slot is of a connection that there is, or of a lock
  pub named : (d : ℕ) → AreNamed (length t.flat.connections) (uses_at t d)
  -- each page shows one of the frames
  pub shown : (d : ℕ) (p : Page) → IsIn p (pages_at t d) → p.frame < length t.spaces.frames
  -- the addresses of a domain's pages strictly rise
  pub rise : (d : ℕ) → Rises (map (λ p. p.vaddr) (pages_at t d))

-- the bytes of each window are a number of 64 bits
abbrev pub AreSized : List Window → Type 0
AreSized windows = (w : Window) → IsIn w windows → 4096 * w.pages < 2 ^ 64

pub record IsWindowed (t : Tables) : Type 0 where
  pub sized : (d : ℕ) → AreSized (windows_at t d)
