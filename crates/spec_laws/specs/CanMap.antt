-- What the images of a system ask of it. All of this holds of the system of a source without faults.
use Rattle.std.specs.Prelude.{◌≡◌, ◌<◌, ◌≤◌, ◌⊎◌, ℕ, ◌%◌, false, length, None, Some, slice_get, sum}
use Rattle.spec_laws.specs.Below.{Domain, EndAt, EndSetting, Flat, FlatConnection, FlatEnd, IsIn, Leaf, LeafSetting, Mmio, SharedMemory, Tables, image_number, leaf_members, memory_paddr, memory_pages, page_counts, setting_of, spaces_of, windows_of}
use Rattle.conn_rules.specs.Ends.{end_rule}
use Rattle.source_images.specs.Numbered.{AreNumbered, AreSound}
use Rattle.source_images.specs.SpaceFaults.{first_space_fault}
use Rattle.vspace_layout.specs.CanLay.{CanLay}
use Rattle.spec_laws.specs.Framed.{OneDevice}
use Rattle.spec_laws.specs.Spaced.{system}

-- the leaves of a domain are those that are inside it, each once, and one at least
pub record AreGrouped (flat : Flat) : Type 0 where
  pub listed : (d leaf : ℕ) (x : Domain) → slice_get flat.domains d ≡ Some x → IsIn leaf x.leaves
      → (found : Leaf) × (slice_get flat.leaves leaf ≡ Some found) × (found.domain ≡ Some d)
  pub inside : (leaf d : ℕ) (found : Leaf) → slice_get flat.leaves leaf ≡ Some found → found.domain ≡ Some d
      → (x : Domain) × (slice_get flat.domains d ≡ Some x) × IsIn leaf x.leaves
  pub once : (d i j leaf : ℕ) (x : Domain) → slice_get flat.domains d ≡ Some x → slice_get x.leaves i ≡ Some leaf
      → slice_get x.leaves j ≡ Some leaf → i ≡ j
  pub some : (d : ℕ) (x : Domain) → slice_get flat.domains d ≡ Some x → 0 < length x.leaves

-- each end of software joins a member of a leaf that is inside a domain
pub record AreJoined (t : Tables) : Type 0 where
  pub member : (k n : ℕ) (c : FlatConnection) (e : FlatEnd) → slice_get t.flat.connections k ≡ Some c
      → slice_get c.ends n ≡ Some e → e.member < length (leaf_members t.source t.flat e.leaf)
  pub software : (k n : ℕ) (c : FlatConnection) (e : FlatEnd) → slice_get t.flat.connections k ≡ Some c
      → slice_get c.ends n ≡ Some e → (end_rule c.connector e.role).hardware ≡ false
      → (found : Leaf) × (d : ℕ) × (slice_get t.flat.leaves e.leaf ≡ Some found) × (found.domain ≡ Some d)

-- each leaf of a domain has an image and settings, stacks are whole pages, and each end has a setting
pub record AreSettled (t : Tables) : Type 0 where
  pub image : (leaf d : ℕ) (found : Leaf) → slice_get t.flat.leaves leaf ≡ Some found → found.domain ≡ Some d
      → (m : ℕ) × (image_number t.images leaf ≡ Some m)
  pub leaf : (leaf : ℕ) (found : Leaf) → slice_get t.flat.leaves leaf ≡ Some found
      → (s : LeafSetting) × (slice_get t.settled.leaves leaf ≡ Some s)
  pub stack : (leaf : ℕ) (s : LeafSetting) → slice_get t.settled.leaves leaf ≡ Some s → s.stack % 4096 ≡ 0
  pub end : (k n : ℕ) (c : FlatConnection) (e : FlatEnd) → slice_get t.flat.connections k ≡ Some c → slice_get c.ends n ≡ Some e
      → (s : EndSetting) × (setting_of t.settled k n ≡ Some s)

-- what connections to one dataport of a device say of it is the same, and each memory has a window
pub record IsMemory (t : Tables) : Type 0 where
  pub pages : (k l : ℕ) (c e : FlatConnection) → slice_get t.flat.connections k ≡ Some c
      → slice_get t.flat.connections l ≡ Some e → OneDevice c e → memory_pages t.settled k c ≡ memory_pages t.settled l e
  pub paddr : (k l : ℕ) (c e : FlatConnection) → slice_get t.flat.connections k ≡ Some c
      → slice_get t.flat.connections l ≡ Some e → OneDevice c e → memory_paddr t.settled k c ≡ memory_paddr t.settled l e
  pub seen : (k : ℕ) (c : FlatConnection) → slice_get t.flat.connections k ≡ Some c
      → (c.connector ≡ Mmio) ⊎ (c.connector ≡ SharedMemory)
      → (d : ℕ) × (e : EndAt) × IsIn e (windows_of (system t) d) × (e.connection ≡ k)

pub record CanMap (t : Tables) : Type 0 where
  pub spaces : t.spaces ≡ spaces_of (system t)
  pub lay : CanLay (system t)
  pub numbered : AreNumbered t.flat t.images
  pub sound : AreSound t.images
  pub clean : first_space_fault t.flat t.images ≡ None
  pub few : sum (page_counts (system t)) ≤ 65536
  pub grouped : AreGrouped t.flat
  pub joined : AreJoined t
  pub settled : AreSettled t
  pub memory : IsMemory t
