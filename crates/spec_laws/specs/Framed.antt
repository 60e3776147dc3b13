-- The frames of a system, told of its spec. Page k of a shared connection is one frame in all its windows, and page k of the
-- registers of a device is one frame, at its address. Every other frame is mapped once, in one space, has no address, and is
-- filled as its page of a section says, or not at all.
use Rattle.std.specs.Prelude.{◌≡◌, ◌↔◌, ◌⊎◌, ◌<◌, ℕ, ◌+◌, ◌*◌, ◌/◌, Bool, Option, Some, None, slice_get}
use Rattle.spec_laws.specs.Below.{Cap, Domain, EndAt, Fill, FlatConnection, FlatEnd, Frame, Mmio, Region, SharedMemory, Spec, Tables, Window, memory_paddr, object_at, registers, root_span, shapes}
use Rattle.spec_laws.specs.Spaced.{IsAt, IsRegionPage, IsSectionPage}

-- page j of a window of connection k, in the space of domain d, is the frame at the place
pub record ShowsMemory (t : Tables) (spec : Spec) (root : ℕ → ℕ) (d k j place : ℕ) : Type 0 where
  pub number : ℕ
  pub region : Region
  pub e : EndAt
  pub content : region.content ≡ Window e
  pub of_connection : e.connection ≡ k
  pub v : ℕ
  pub page : IsRegionPage t d number v j region
  pub cap : Cap
  pub mapped : IsAt spec (root d) v cap
  pub names : cap.object ≡ place

-- no window has this frame
abbrev pub IsOwn : Tables → Spec → (ℕ → ℕ) → ℕ → Type 0
IsOwn t spec root place = (d k j : ℕ) → ShowsMemory t spec root d k j place → ⊥

-- both connections show one memory: they are one, or lead to one dataport of a device
pub record OneDevice (c e : FlatConnection) : Type 0 where
  pub port : FlatEnd
  pub first : registers c ≡ Some port
  pub other : FlatEnd
  pub second : registers e ≡ Some other
  pub leaf : port.leaf ≡ other.leaf
  pub member : port.member ≡ other.member

abbrev pub OneMemory : ℕ → FlatConnection → ℕ → FlatConnection → Type 0
OneMemory k c l e = (k ≡ l) ⊎ OneDevice c e

-- the frames that windows show
pub record AreMemoryFrames (t : Tables) (spec : Spec) (root : ℕ → ℕ) : Type 0 where
  pub shared : (d e k l i j m n : ℕ) (c f : FlatConnection) → slice_get t.flat.connections k ≡ Some c
      → slice_get t.flat.connections l ≡ Some f → ShowsMemory t spec root d k i m → ShowsMemory t spec root e l j n
      → (m ≡ n) ↔ (OneMemory k c l f × (i ≡ j))
  pub registers : (d k j place : ℕ) (c : FlatConnection) → slice_get t.flat.connections k ≡ Some c → c.connector ≡ Mmio
      → ShowsMemory t spec root d k j place
      → object_at spec place ≡ Some (Frame (Some (memory_paddr t.settled k c + 4096 * j)) None)
  pub plain : (d k j place : ℕ) (c : FlatConnection) → slice_get t.flat.connections k ≡ Some c → c.connector ≡ SharedMemory
      → ShowsMemory t spec root d k j place → object_at spec place ≡ Some (Frame None None)

-- all others: a page of a section has its fill, and any other page that is no window's has none
pub record AreOwnFrames (t : Tables) (spec : Spec) (root : ℕ → ℕ) : Type 0 where
  pub fills : (d v : ℕ) (cap : Cap) (write : Bool) (fill : Option Fill) → IsSectionPage t d (4096 * (v / 4096)) write fill
      → IsAt spec (root d) v cap → object_at spec cap.object ≡ Some (Frame None fill)
  pub zeros : (d n v j : ℕ) (r : Region) (cap : Cap) → IsRegionPage t d n (4096 * (v / 4096)) j r
      → ((e : EndAt) → r.content ≡ Window e → ⊥) → IsAt spec (root d) v cap → object_at spec cap.object ≡ Some (Frame None None)
  pub once : (d e v w : ℕ) (x y : Domain) (a b : Cap) → slice_get t.flat.domains d ≡ Some x
      → slice_get t.flat.domains e ≡ Some y → v < root_span (shapes spec.arch) → w < root_span (shapes spec.arch)
      → IsAt spec (root d) v a → IsAt spec (root e) w b → a.object ≡ b.object → IsOwn t spec root a.object
      → (d ≡ e) × (v / 4096 ≡ w / 4096)

-- each frame is mapped in a space
abbrev pub AreAllMapped : Tables → Spec → (ℕ → ℕ) → Type 0
AreAllMapped t spec root =
    (place : ℕ) (paddr : Option ℕ) (fill : Option Fill) → object_at spec place ≡ Some (Frame paddr fill)
    → (d v : ℕ) × (x : Domain) × (cap : Cap) × (slice_get t.flat.domains d ≡ Some x) × IsAt spec (root d) v cap
    × (cap.object ≡ place)

pub record AreFrames (t : Tables) (spec : Spec) (root : ℕ → ℕ) : Type 0 where
  pub memory : AreMemoryFrames t spec root
  pub own : AreOwnFrames t spec root
  pub all : AreAllMapped t spec root
