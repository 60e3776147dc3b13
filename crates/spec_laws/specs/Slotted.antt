-- The slots of a compiled system, told of its spec and its map. The capabilities of a domain stand in the order of its uses,
-- and the one that has n before it stands in slot n + 1 of the domain's CNode; nothing else stands there. Each leads to the
-- object of its end, with the rights of the connector table and the settled badge; a lock's leads to this lock of this leaf,
-- with reading and writing. The CNode has the least size above the number of its capabilities. An interrupt holds its
-- connection's notification, and its line has the settled number. The map says these places and no others.
--
-- Locks are numbered by domain, leaf and member, and interrupts by connection: each by how many of its kind stand before it.
use Rattle.std.specs.Prelude.{◌≡◌, ◌<◌, ◌^◌, ℕ, ◌+◌, if◌then◌else◌, List, [], ◌∷◌, length, Some, slice_get}
use Rattle.spec_laws.specs.Below.{CNode, Cap, Connector, Direct, Domain, EndSetting, FlatConnection, FlatEnd, From, Interrupt, Irq, IsIn, MapLine, Mmio, NONE, OwnLine, RW, Rpc, Series, SharedMemory, SlotLine, Spec, Tables, To, before, device_place}
use Rattle.spec_laws.specs.Below.{domain_uses, gather, is_lock, leaf_members, name_at, name_of, object_at, rows_of, setting_of, slots_of}
use Rattle.adl_ast.specs.declared.composition.Role.{Role}
use Rattle.adl_meaning.specs.declared.connector.Connector.TheVariants.{Notification as Notifies}
use Rattle.cap_model.specs.declared.object.Object.TheVariants.{Notification}
use Rattle.conn_rules.specs.declared.rule.RuleRow.{RuleRow}
use Rattle.cspace_layout.specs.declared.plan.SlotUse.{SlotUse}
use Rattle.cspace_layout.specs.declared.plan.SlotUse.TheVariants.{OfEnd, Handler, OwnLock}
use Rattle.system_spec.specs.declared.series.Series.TheVariants as series
use Rattle.system_spec.specs.Bits.{IsLeastBits}
use Rattle.system_spec.specs.Landmarks.{has_irq}

-- the object at the place has the name of its series and this number
abbrev pub IsNamed : Spec → ℕ → Series → ℕ → Type 0
IsNamed spec place s n = name_at spec place ≡ name_of s n

-- connection k's endpoint or notification
abbrev pub IsJoint : Spec → ℕ → Connector → ℕ → Type 0
IsJoint spec place Rpc k = IsNamed spec place series.Ep k
IsJoint spec place Notifies k = IsNamed spec place series.Ntfn k
IsJoint spec place Interrupt k = IsNamed spec place series.Ntfn k
IsJoint spec place SharedMemory k = ⊥
IsJoint spec place Mmio k = ⊥
IsJoint spec place Direct k = ⊥

-- ---- interrupts and locks by number

-- the number of a connection that is an interrupt's
abbrev pub interrupt : ℕ → FlatConnection → List ℕ
interrupt k c = if has_irq c.connector then k ∷ [] else []

-- the locks of a leaf, each with its member's number
abbrev pub leaf_locks : Tables → ℕ → List (ℕ × ℕ)
leaf_locks t leaf = gather (λ m x. if is_lock x then (leaf, m) ∷ [] else []) (leaf_members t.source t.flat leaf)

-- those of a domain, leaf by leaf
abbrev pub domain_locks : Tables → Domain → List (ℕ × ℕ)
domain_locks t x = gather (λ i leaf. leaf_locks t leaf) x.leaves

-- the lock that is member m of the leaf has this number: so many stand before it, those of the domains before its own, and those
-- before it in its own
pub record IsLockNumber (t : Tables) (leaf m number : ℕ) : Type 0 where
  pub domain : ℕ
  pub leaves : Domain
  pub here : slice_get t.flat.domains domain ≡ Some leaves
  pub place : ℕ
  pub stands : slice_get (domain_locks t leaves) place ≡ Some (leaf, m)
  pub is : number ≡ before (λ d x. domain_locks t x) t.flat.domains domain + place

-- the interrupt of connection k: so many interrupts stand before it, it holds the connection's notification, and has the settled
-- number
pub record IsIrqOf (t : Tables) (spec : Spec) (k place : ℕ) : Type 0 where
  pub connection : FlatConnection
  pub here : slice_get t.flat.connections k ≡ Some connection
  pub named : IsNamed spec place series.Irq (before interrupt t.flat.connections k)
  pub notification : ℕ
  pub is : object_at spec place ≡ Some (Irq (Some notification))
  pub holds : IsNamed spec notification series.Ntfn k
  pub number : ℕ
  pub device : device_place connection.connector connection.ends ≡ Some number
  pub setting : EndSetting
  pub settled : setting_of t.settled k number ≡ Some setting
  pub line : IsIn (setting.irq, place) spec.irqs

-- ---- capabilities

abbrev pub IsBadge : Tables → ℕ → ℕ → Role → ℕ → Type 0
IsBadge t k n From badge = (s : EndSetting) × (setting_of t.settled k n ≡ Some s) × (badge ≡ s.badge)
IsBadge t k n To badge = badge ≡ 0

-- the capability of end n of connection k, by the first row of the end
pub record IsEndCap (t : Tables) (spec : Spec) (k n : ℕ) (cap : Cap) : Type 0 where
  pub connection : FlatConnection
  pub here : slice_get t.flat.connections k ≡ Some connection
  pub end : FlatEnd
  pub stands : slice_get connection.ends n ≡ Some end
  pub row : RuleRow
  pub first : slice_get (rows_of connection.connector end.role) 0 ≡ Some row
  pub joint : IsJoint spec cap.object connection.connector k
  pub rights : cap.rights ≡ row.rights
  pub badge : IsBadge t k n end.role cap.badge

pub record IsHandlerCap (t : Tables) (spec : Spec) (k : ℕ) (cap : Cap) : Type 0 where
  pub irq : IsIrqOf t spec k cap.object
  pub rights : cap.rights ≡ NONE
  pub badge : cap.badge ≡ 0

-- the lock that is member m of the leaf: a notification that no other use of the system has
pub record IsLockCap (t : Tables) (spec : Spec) (leaf m : ℕ) (cap : Cap) : Type 0 where
  pub number : ℕ
  pub numbered : IsLockNumber t leaf m number
  pub named : IsNamed spec cap.object series.Lock number
  pub is : object_at spec cap.object ≡ Some Notification
  pub rights : cap.rights ≡ RW
  pub badge : cap.badge ≡ 0

abbrev pub IsCapOf : Tables → Spec → SlotUse → Cap → Type 0
IsCapOf t spec (OfEnd k n) cap = IsEndCap t spec k n cap
IsCapOf t spec (Handler k n) cap = IsHandlerCap t spec k cap
IsCapOf t spec (OwnLock leaf m) cap = IsLockCap t spec leaf m cap

-- ---- CNodes

pub record IsSlotOf (t : Tables) (spec : Spec) (uses : List SlotUse) (slot : ℕ × Cap) : Type 0 where
  pub before : ℕ
  pub used : SlotUse
  pub at : slice_get uses before ≡ Some used
  pub is : slot.0 ≡ before + 1
  pub cap : IsCapOf t spec used slot.1

-- the CNode of domain d, which stands at place d
pub record IsCNodeOf (t : Tables) (spec : Spec) (d : ℕ) (uses : List SlotUse) : Type 0 where
  pub bits : ℕ
  pub slots : List (ℕ × Cap)
  pub is : object_at spec d ≡ Some (CNode bits slots)
  pub named : IsNamed spec d series.CNode d
  pub least : IsLeastBits (length uses) bits
  pub as_many : length slots ≡ length uses
  pub only : (slot : ℕ × Cap) → IsIn slot slots → IsSlotOf t spec uses slot
  pub every : (n : ℕ) (u : SlotUse) → slice_get uses n ≡ Some u → (cap : Cap) × IsIn (n + 1, cap) slots

-- ---- the map

-- the line of the use in slot `slot`, over the object that the capability there names
abbrev pub IsLineOf : SlotUse → ℕ → Cap → MapLine → Type 0
IsLineOf (OfEnd k m) slot cap line = line ≡ SlotLine k m slot cap.object
IsLineOf (Handler k m) slot cap line = line ≡ SlotLine k m slot cap.object
IsLineOf (OwnLock leaf m) slot cap line = line ≡ OwnLine leaf m slot cap.object

-- a use of a domain, with the capability in its slot
pub record IsUsed (t : Tables) (spec : Spec) (line : MapLine) : Type 0 where
  pub domain : ℕ
  pub leaves : Domain
  pub here : slice_get t.flat.domains domain ≡ Some leaves
  pub before : ℕ
  pub used : SlotUse
  pub at : slice_get (domain_uses t.source t.flat leaves.leaves) before ≡ Some used
  pub bits : ℕ
  pub slots : List (ℕ × Cap)
  pub is : object_at spec domain ≡ Some (CNode bits slots)
  pub cap : Cap
  pub holds : IsIn (before + 1, cap) slots
  pub said : IsLineOf used (before + 1) cap line

abbrev pub IsSlotLine : MapLine → Type 0
IsSlotLine (SlotLine k m slot object) = Unit {0}
IsSlotLine (OwnLine leaf m slot object) = Unit {0}
IsSlotLine _ = ⊥

-- ---- all

-- interrupt line n is that of a connection's interrupt, which has this number
pub record IsIrqLine (t : Tables) (spec : Spec) (n place : ℕ) : Type 0 where
  pub k : ℕ
  pub connection : FlatConnection
  pub here : slice_get t.flat.connections k ≡ Some connection
  pub is_interrupt : connection.connector ≡ Interrupt
  pub irq : IsIrqOf t spec k place
  pub number : n ≡ irq.setting.irq

pub record HasSlots (t : Tables) (spec : Spec) (map : List MapLine) : Type 0 where
  pub cnodes : (d : ℕ) (x : Domain) → slice_get t.flat.domains d ≡ Some x
      → IsCNodeOf t spec d (domain_uses t.source t.flat x.leaves)
  pub irqs : (k : ℕ) (c : FlatConnection) → slice_get t.flat.connections k ≡ Some c → c.connector ≡ Interrupt
      → (place : ℕ) × IsIrqOf t spec k place
  pub lines : (n place : ℕ) → IsIn (n, place) spec.irqs → IsIrqLine t spec n place
  pub map_only : (line : MapLine) → IsIn line map → IsSlotLine line → IsUsed t spec line
  pub map_every : (line : MapLine) → IsUsed t spec line → IsIn line map

-- no two uses have one lock
abbrev pub OwnLocks : Spec → Type 0
OwnLocks spec =
    (d m n : ℕ) (e : ℕ) (a b : Cap) (bits more : ℕ) (slots others : List (ℕ × Cap)) (r s : ℕ)
    → object_at spec d ≡ Some (CNode bits slots) → object_at spec e ≡ Some (CNode more others) → IsIn (m, a) slots
    → IsIn (n, b) others → IsNamed spec a.object series.Lock r → IsNamed spec b.object series.Lock s → a.object ≡ b.object
    → (d ≡ e) × (m ≡ n)

pub record AreSlots (t : Tables) (spec : Spec) (map : List MapLine) : Type 0 where
  pub has : HasSlots t spec map
  pub own_locks : OwnLocks spec

-- what this asks of a system: its slots are laid out as its uses are, each domain has few uses, each end has a setting, and
-- each interrupt has a device
pub record CanSlot (t : Tables) : Type 0 where
  pub slots : t.slots ≡ slots_of t.source t.flat
  pub few : (d : ℕ) (x : Domain) → slice_get t.flat.domains d ≡ Some x → length (domain_uses t.source t.flat x.leaves) < 2 ^ 16
  pub settled : (k n : ℕ) (c : FlatConnection) (e : FlatEnd) → slice_get t.flat.connections k ≡ Some c
      → slice_get c.ends n ≡ Some e → (s : EndSetting) × (setting_of t.settled k n ≡ Some s)
  pub devices : (k : ℕ) (c : FlatConnection) → slice_get t.flat.connections k ≡ Some c → c.connector ≡ Interrupt
      → (n : ℕ) × (e : FlatEnd) × (device_place c.connector c.ends ≡ Some n) × (slice_get c.ends n ≡ Some e)
