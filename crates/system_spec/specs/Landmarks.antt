-- Where the objects of domains stand, their page tables, and which parts have objects that are made one by one.
use Rattle.std.specs.Prelude.{◌≡◌, ◌<◌, ℕ, List, [], ◌∷◌, length, ◌+◌, Bool, true, false, if◌then◌else◌}
use Rattle.system_spec.specs.Below.{Connector, FlatConnection, Handler, Interrupt, IsIn, Notification, Object, OfEnd, OwnLock, Rpc, SlotUse, before, gather}
use Rattle.system_spec.specs.declared.landmarks.Landmarks.{Landmarks}
use Rattle.system_spec.specs.declared.landmarks.Plan.{Plan}
use Rattle.system_spec.specs.declared.part.Part.{Part}
use Rattle.system_spec.specs.declared.part.What.{What}
use Rattle.system_spec.specs.declared.part.What.TheVariants.{CNodeOf, ThreadOf, EndpointOf, NotificationOf, LockOf, IrqOf, TableOf, FrameOf}
use Rattle.system_spec.specs.Parts.{but_frames, first_of, place, tables_at}
use Rattle.system_spec.specs.Tables.{Tables}
use Rattle.system_spec.specs.declared.places.Places.{Places}
use Rattle.system_spec.specs.declared.places.Standing.{Standing}
use Rattle.system_spec.specs.declared.places.Standing.TheVariants as standings

abbrev pub one : Bool → ℕ
one b = if b then 1 else 0

abbrev pub holds_lock : SlotUse → Bool
holds_lock (OfEnd k n) = false
holds_lock (Handler k n) = false
holds_lock (OwnLock leaf m) = true

abbrev pub has_endpoint : Connector → Bool
has_endpoint Rpc = true
has_endpoint _ = false

abbrev pub has_notification : Connector → Bool
has_notification Notification = true
has_notification Interrupt = true
has_notification _ = false

abbrev pub has_irq : Connector → Bool
has_irq Interrupt = true
has_irq _ = false

-- whether connections of this connector have such an object
abbrev pub stands : Standing → Connector → Bool
stands standings.Endpoint c = has_endpoint c
stands standings.Notification c = has_notification c
stands standings.Interrupt c = has_irq c

-- a mark for each object of the connection
abbrev pub mark : Standing → ℕ → FlatConnection → List Bool
mark standing k c = if stands standing c.connector then true ∷ [] else []

abbrev pub places_from : Standing → ℕ → List FlatConnection → List ℕ
places_from standing first cs = gather (λ k c. (first + before (mark standing) cs k) ∷ []) cs

-- the places of the objects of connections
pub record ArePlaces (t : Tables) (p : Places) : Type 0 where
  pub endpoints : p.endpoints ≡ gather (λ k c. place t (EndpointOf k) ∷ []) t.flat.connections
  pub notifications : p.notifications ≡ gather (λ k c. place t (NotificationOf k) ∷ []) t.flat.connections
  pub irqs : p.irqs ≡ gather (λ k c. place t (IrqOf k) ∷ []) t.flat.connections

-- the place of the first lock of each domain
abbrev pub first_locks : Tables → List ℕ
first_locks t = gather (λ d x. place t (LockOf d 0) ∷ []) t.flat.domains

-- the place of the root of each domain's space
abbrev pub roots : Tables → List ℕ
roots t = gather (λ d x. place t (TableOf d 0) ∷ []) t.flat.domains

-- the page tables of a domain
abbrev pub space_tables : Tables → ℕ → List Object
space_tables t d = tables_at t (place t (TableOf d 0)) (place t (FrameOf 0)) d

abbrev pub all_spaces : Tables → List Object
all_spaces t = gather (λ d x. space_tables t d) t.flat.domains

pub record AreLandmarks (t : Tables) (m : Landmarks) : Type 0 where
  pub connections : ArePlaces t m.connections
  pub locks : m.locks ≡ first_locks t
  pub roots : m.roots ≡ roots t
  pub threads : m.first_thread ≡ first_of t 1
  pub lock : m.first_lock ≡ first_of t 4
  pub irq : m.first_irq ≡ first_of t 5
  pub frames : m.first_frame ≡ place t (FrameOf 0)

pub record IsPlan (t : Tables) (p : Plan) : Type 0 where
  pub sections : p.sections ≡ but_frames t
  pub marks : AreLandmarks t p.marks
  pub tables : p.tables ≡ all_spaces t

-- no page table, and its domain or connection is one that there is
abbrev pub IsThere : Tables → What → Type 0
IsThere t (CNodeOf d) = d < length t.flat.domains
IsThere t (ThreadOf d i) = d < length t.flat.domains
IsThere t (EndpointOf k) = Unit {0}
IsThere t (NotificationOf k) = Unit {0}
IsThere t (LockOf d n) = Unit {0}
IsThere t (IrqOf k) = k < length t.flat.connections
IsThere t (TableOf d j) = ⊥
IsThere t (FrameOf f) = Unit {0}

abbrev pub AreThere : Tables → List Part → Type 0
AreThere t ps = (p : Part) → IsIn p ps → IsThere t p.what
