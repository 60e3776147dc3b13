-- The labels of a system's objects, told of its spec and its map. What belongs to a domain has the domain's label: its CNode, its
-- threads, its locks, its page tables and its own frames. Endpoints, notifications and shared frames have the connection's,
-- registers and interrupts the device's.
use Rattle.std.specs.Prelude.{◌≡◌, ◌⊎◌, ◌<◌, ℕ, ◌+◌, List, ◌∷◌, length, drop, Option, Some, slice_get}
use Rattle.spec_laws.specs.Below.{CNode, Cap, Domain, EndAt, FlatConnection, FlatEnd, Interrupt, IsIn, Labels, Leaf, MapLine, Notification, Rpc, Shape, SharedMemory, Spec, Tables, ThreadLine, irq_owner, object_at, registers, root_span, shapes}
use Rattle.arch_policy.specs.declared.owner.Owner.{Owner}
use Rattle.arch_policy.specs.declared.owner.Owner.TheVariants.{OfConnection, OfDomain, OfLeaf}
use Rattle.arch_policy.specs.Tables.{number_of}
use Rattle.system_spec.specs.declared.series.Series.TheVariants as series
use Rattle.spec_laws.specs.Framed.{IsOwn, ShowsMemory}
use Rattle.spec_laws.specs.Slotted.{IsIrqOf, IsNamed}
use Rattle.spec_laws.specs.Spaced.{IsAt, IsTableFor}

-- the object at the place has the label of this owner
abbrev pub IsOf : Tables → Labels → ℕ → Owner → Type 0
IsOf t labels place owner = slice_get labels.by_object place ≡ Some (number_of t.numbers owner)

-- of a domain: its CNode, its threads and its locks
pub record AreDomainLabels (t : Tables) (spec : Spec) (labels : Labels) (lines : List MapLine) : Type 0 where
  pub cnodes : (d : ℕ) (x : Domain) → slice_get t.flat.domains d ≡ Some x → IsOf t labels d (OfDomain d)
  pub threads : (place leaf d : ℕ) (end : Option EndAt) (x : Leaf) → IsIn (ThreadLine place leaf end) lines
      → slice_get t.flat.leaves leaf ≡ Some x → x.domain ≡ Some d → IsOf t labels place (OfDomain d)
  pub locks : (d bits m number : ℕ) (slots : List (ℕ × Cap)) (cap : Cap) → object_at spec d ≡ Some (CNode bits slots)
      → IsIn (m, cap) slots → IsNamed spec cap.object series.Lock number → IsOf t labels cap.object (OfDomain d)

-- of connections and devices
pub record AreJointLabels (t : Tables) (spec : Spec) (labels : Labels) : Type 0 where
  pub endpoints : (place k : ℕ) (c : FlatConnection) → slice_get t.flat.connections k ≡ Some c → c.connector ≡ Rpc
      → IsNamed spec place series.Ep k → IsOf t labels place (OfConnection k)
  pub notifications : (place k : ℕ) (c : FlatConnection) → slice_get t.flat.connections k ≡ Some c
      → (c.connector ≡ Notification) ⊎ (c.connector ≡ Interrupt) → IsNamed spec place series.Ntfn k
      → IsOf t labels place (OfConnection k)
  pub irqs : (k place : ℕ) (c : FlatConnection) → slice_get t.flat.connections k ≡ Some c → IsIrqOf t spec k place
      → IsOf t labels place (irq_owner k c)

-- of what is mapped
pub record AreFrameLabels (t : Tables) (spec : Spec) (root : ℕ → ℕ) (labels : Labels) : Type 0 where
  pub own : (d v : ℕ) (x : Domain) (cap : Cap) → slice_get t.flat.domains d ≡ Some x → v < root_span (shapes spec.arch)
      → IsAt spec (root d) v cap → IsOwn t spec root cap.object → IsOf t labels cap.object (OfDomain d)
  pub shared : (d k j place : ℕ) (c : FlatConnection) → slice_get t.flat.connections k ≡ Some c → c.connector ≡ SharedMemory
      → ShowsMemory t spec root d k j place → IsOf t labels place (OfConnection k)
  pub device : (d k j place : ℕ) (c : FlatConnection) (e : FlatEnd) → slice_get t.flat.connections k ≡ Some c
      → registers c ≡ Some e → ShowsMemory t spec root d k j place → IsOf t labels place (OfLeaf e.leaf)

pub record AreLabels (t : Tables) (spec : Spec) (root : ℕ → ℕ) (labels : Labels) (lines : List MapLine) : Type 0 where
  pub as_many : length labels.by_object ≡ length spec.entries
  pub of_domains : AreDomainLabels t spec labels lines
  pub of_joints : AreJointLabels t spec labels
  pub of_frames : AreFrameLabels t spec root labels

-- page tables have their domain's label
abbrev pub AreTableLabels : Tables → Spec → (ℕ → ℕ) → Labels → Type 0
AreTableLabels t spec root labels =
    (d v j n : ℕ) (x : Domain) (l : Shape) (ls : List Shape) → slice_get t.flat.domains d ≡ Some x
    → v < root_span (shapes spec.arch) → drop j (shapes spec.arch) ≡ l ∷ ls → IsTableFor spec (root d) (l ∷ ls) v n
    → IsOf t labels (root d + n) (OfDomain d)
