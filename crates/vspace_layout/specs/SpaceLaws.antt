-- What follows from the definitions, as statements.
use Rattle.std.specs.Prelude.{◌≡◌, ◌<◌, ◌≤◌, ℕ, ◌+◌, ◌*◌, ◌%◌, true, map, length, Option, Some, None, slice_get}
use Rattle.vspace_layout.specs.Below.{All, AllPairs, Arch, Fill, FlatConnection, FlatEnd, IsIn, section_pages}
use Rattle.cap_model.specs.declared.level.Arch.TheVariants.{Arm11, Aarch64}
use Rattle.page_tables.specs.Runs.{Rises}
use Rattle.vspace_layout.specs.declared.mapped.MappedPage.{MappedPage}
use Rattle.vspace_layout.specs.declared.mapped.Shown.TheVariants.{Own}
use Rattle.vspace_layout.specs.declared.owner.Owner.TheVariants.{OfConnection, OfDomain}
use Rattle.vspace_layout.specs.declared.region.Region.{Region}
use Rattle.vspace_layout.specs.Frames.{frame, frames, memory_number, number_shown, register_frame}
use Rattle.vspace_layout.specs.Given.{Given, arch, base, leaves_of}
use Rattle.vspace_layout.specs.MappedPages.{mapped_pages}
use Rattle.vspace_layout.specs.Memory.{first_to, is_shared, memory_pages, registers}
use Rattle.vspace_layout.specs.Regions.{regions, start}

-- regions stand apart, a free page between them, each at a whole page and above the base
pub record RegionsAreApart (t : Given) (d : ℕ) : Type 0 where
  pub apart : (i j : ℕ) (r : Region) → i < j → slice_get (regions t d) i ≡ Some r
      → start t d i + 4096 * r.pages + 4096 ≤ start t d j
  pub aligned : (i : ℕ) → start t d i % 4096 ≡ 0
  pub above : (i : ℕ) → base t + 4096 ≤ start t d i

-- the pages of sections stand at whole pages, one behind another, and end below the base
pub record SectionsStand (t : Given) (d : ℕ) : Type 0 where
  pub aligned : All (λ p. p.vaddr % 4096 ≡ 0) (section_pages t.images (leaves_of t.flat d))
  pub apart : AllPairs (λ p q. p.vaddr + 4096 ≤ q.vaddr) (section_pages t.images (leaves_of t.flat d))
  pub below : All (λ p. p.vaddr + 4096 ≤ base t) (section_pages t.images (leaves_of t.flat d))

-- no address of a layout reaches this one
abbrev pub address_limit : Arch → ℕ
address_limit Arm11 = 0xC0000000
address_limit Aarch64 = 0x10000000000

-- pages that are mapped begin below the limit, and so do stacks, buffers and windows end
pub record AddressesAreLow (t : Given) (d : ℕ) : Type 0 where
  pub pages : (p : MappedPage) → IsIn p (mapped_pages t d) → p.at < address_limit (arch t)
  pub ends : (n : ℕ) (r : Region) → slice_get (regions t d) n ≡ Some r → start t d n + 4096 * r.pages < address_limit (arch t)

-- pages stand at whole pages, and rise
pub record PagesRise (t : Given) (d : ℕ) : Type 0 where
  pub aligned : (p : MappedPage) → IsIn p (mapped_pages t d) → p.at % 4096 ≡ 0
  pub rise : Rises (map (λ p. p.at) (mapped_pages t d))

-- a frame stands under the number that is computed for what a page shows: an own one with its fill, or page j of the memory of
-- a connection, which is that of the first connection to a device's registers
pub record FramesStand (t : Given) : Type 0 where
  pub own : (d n : ℕ) (p : MappedPage) (fill : Option Fill) → slice_get (mapped_pages t d) n ≡ Some p → p.shown ≡ Own fill
      → d < length t.flat.domains → slice_get (frames t) (number_shown t d n p.shown) ≡ Some (frame (OfDomain d) None fill)
  pub shared : (k j : ℕ) (c : FlatConnection) → slice_get t.flat.connections k ≡ Some c → is_shared c.connector ≡ true
      → j < memory_pages t.settled k c → slice_get (frames t) (memory_number t k j) ≡ Some (frame (OfConnection k) None None)
  pub registers : (k j n : ℕ) (c d : FlatConnection) (e f : FlatEnd) → slice_get t.flat.connections k ≡ Some c
      → registers c ≡ Some e → first_to t.flat e ≡ Some n → slice_get t.flat.connections n ≡ Some d → registers d ≡ Some f
      → j < memory_pages t.settled n d
      → slice_get (frames t) (memory_number t k j) ≡ Some (register_frame t.settled n d f j)
