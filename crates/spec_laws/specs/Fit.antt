-- What laid-out tables keep whose spec is kept. The slots are those of the flat system. In each domain slots are few, pages
-- stand at whole pages, rise and lie below what the root spans, each shows a frame that there is, and where there is a thread
-- there is a page. Frames and priorities are within what objects hold, and no two interrupts have one number. Tables of a
-- source without faults keep it.
use Rattle.std.specs.Prelude.{◌≡◌, ◌≤◌, ◌<◌, ◌^◌, ◌%◌, ℕ, true, map, length, slice_get, Some}
use Rattle.spec_laws.specs.Below.{Domain, FlatConnection, FrameInfo, Interrupt, IsIn, Tables, ThreadPlace, arch, irq_number, pages_at, parts, priority, root_span, shapes, slots_of, threads_at, uses_at}
use Rattle.cap_model.specs.Kept.{keeps_frame}
use Rattle.page_tables.specs.Runs.{Rises}
use Rattle.vspace_layout.specs.declared.spaces.Page.{Page}

-- the page begins at a whole page, below what the root spans, and its frame is one of the frames
pub record IsPageFit (t : Tables) (p : Page) : Type 0 where
  pub aligned : p.vaddr % 4096 ≡ 0
  pub below : p.vaddr < root_span (shapes (arch t))
  pub frame : p.frame < length t.spaces.frames

pub record IsDomainFit (t : Tables) (d : ℕ) : Type 0 where
  pub slots : length (uses_at t d) < 2 ^ 16
  pub pages : (p : Page) → IsIn p (pages_at t d) → IsPageFit t p
  pub rise : Rises (map (λ p. p.vaddr) (pages_at t d))
  pub mapped : (x : ThreadPlace) → IsIn x (threads_at t d) → (p : Page) × IsIn p (pages_at t d)

pub record IsFit (t : Tables) : Type 0 where
  pub laid : t.slots ≡ slots_of t.source t.flat
  pub connections : length t.flat.connections < 2 ^ 32
  pub objects : length (parts t) < 2 ^ 32
  pub domains : (d : ℕ) (x : Domain) → slice_get t.flat.domains d ≡ Some x → IsDomainFit t d
  pub frames : (f : FrameInfo) → IsIn f t.spaces.frames → keeps_frame f.paddr f.fill ≡ true
  pub priorities : (leaf : ℕ) → priority t leaf ≤ 255
  pub one_line : (j k : ℕ) (a b : FlatConnection) → slice_get t.flat.connections j ≡ Some a
      → slice_get t.flat.connections k ≡ Some b → a.connector ≡ Interrupt → b.connector ≡ Interrupt
      → irq_number t.settled j a ≡ irq_number t.settled k b → j ≡ k
