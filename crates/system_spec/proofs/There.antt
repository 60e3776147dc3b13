-- The parts of a system are of what there is: domains, threads, connections, locks, page tables and frames, each by its number.
use Rattle.std.proofs.Common.{rules}
use Rattle.system_spec.proofs.Common.{Bool, CNodeOf, Connector, Domain, EndpointOf, FlatConnection, FrameInfo, FrameOf, Interrupt, IrqOf, IsIn, List, LockOf, Notification, NotificationOf, Object, OfConnection, OfDomain, OwnLock, Owned, Owner}
use Rattle.system_spec.proofs.Common.{PageTable, Part, Rpc, Series, SlotUse, Some, TableOf, Tables, ThreadOf, ThreadPlace, [], all_tables, ap, cnodes, domain_locks, domain_tables, domain_tcbs, endpoint, endpoint_by, endpoints, false, frame_owner}
use Rattle.system_spec.proofs.Common.{frame_parts, from_gather, from_ones, in_append, in_gather, in_place, inl, inr, irq, irq_by, irq_owner, irqs, level_of, lock, locks, notification, notification_by, notifications, numbered, object, object_at}
use Rattle.system_spec.proofs.Common.{option_map, owned, page_table, part, parts, place, place_of, refl, sections, slice_get, slice_get_within, spec_of, subst, sym, table_part, table_parts, tables_at, take, tcbs, threads_at, together, true, uses_at}
use Rattle.system_spec.proofs.Common.{ℕ, ◌∷◌, ◌≡◌, ◌⊎◌}
use Rattle.cap_model.specs.Kinds.{kind_at, kind_of_object}
use Rattle.system_spec.proofs.Objects as objects
use Rattle.system_spec.proofs.Objects.{in_together, objects_stand}
use Rattle.system_spec.specs.declared.part.What.{What}
use Rattle.system_spec.specs.declared.series.Series.TheVariants as series
use Rattle.system_spec.specs.Landmarks.{IsThere as IsCounted}

-- ---- what there is

abbrev pub IsDomain : Tables → ℕ → Type 0
IsDomain t d = (x : Domain) × (slice_get t.flat.domains d ≡ Some x)

abbrev pub Notifies : Connector → Type 0
Notifies c = (c ≡ Notification) ⊎ (c ≡ Interrupt)

abbrev pub IsThere : Tables → What → Type 0
IsThere t (CNodeOf d) = IsDomain t d
IsThere t (ThreadOf d i) = IsDomain t d × ((x : ThreadPlace) × (slice_get (threads_at t d) i ≡ Some x))
IsThere t (EndpointOf k) = (c : FlatConnection) × (slice_get t.flat.connections k ≡ Some c) × (c.connector ≡ Rpc)
IsThere t (NotificationOf k) = (c : FlatConnection) × (slice_get t.flat.connections k ≡ Some c) × Notifies c.connector
IsThere t (LockOf d n) = IsDomain t d × ((leaf m : ℕ) × (slice_get (uses_at t d) n ≡ Some (OwnLock leaf m)))
IsThere t (IrqOf k) = (c : FlatConnection) × (slice_get t.flat.connections k ≡ Some c) × (c.connector ≡ Interrupt)
IsThere t (TableOf d j) = IsDomain t d × ((o : Object) × (slice_get (tables_at t 0 0 d) j ≡ Some o))
IsThere t (FrameOf f) = (x : FrameInfo) × (slice_get t.spaces.frames f ≡ Some x)

abbrev pub HasPart : Tables → What → Type 0
HasPart t w = (p : Part) × IsIn p (parts t) × (p.what ≡ w)

-- ---- numbered parts

from_numbered : (s : Series) (xs : List Owned) (p : Part) → IsIn p (numbered s xs) → (x : Owned) × IsIn x xs × (p.what ≡ x.what)
from_numbered s xs p i =
    let n = place_of p (numbered s xs) i in
    let o = from_ones (λ j (x : Owned). part s j x.owner x.what) xs n.0 p n.1 in
    (o.0, in_place o.0 xs n.0 o.1, ap (λ (z : Part). z.what) (sym o.2))

in_numbered : (s : Series) (xs : List Owned) (x : Owned) → IsIn x xs → (n : ℕ) × IsIn (part s n x.owner x.what) (numbered s xs)
in_numbered s xs x i =
    let n = place_of x xs i in
    (n.0, in_gather (λ j (z : Owned). part s j z.owner z.what ∷ []) (part s n.0 x.owner x.what) xs n.0 x n.1 (inl refl))

-- a numbered part of section n
numbered_part : (t : Tables) (n : ℕ) (s : Series) (xs : List Owned) (x : Owned) → slice_get (sections t) n ≡ Some (numbered s xs)
    → IsIn x xs → HasPart t x.what
numbered_part t n s xs x e i =
    let m = in_numbered s xs x i in
    (part s m.0 x.owner x.what, in_together (sections t) n (numbered s xs) (part s m.0 x.owner x.what) e m.1, refl)

-- ---- there is a part of what there is

has_endpoint : (t : Tables) (k : ℕ) (c : FlatConnection) → slice_get t.flat.connections k ≡ Some c → c.connector ≡ Rpc
    → HasPart t (EndpointOf k)
has_endpoint t k c e r = (part series.Ep k (OfConnection k) (EndpointOf k), objects.has_endpoint t k c e r, refl)

has_notification : (t : Tables) (k : ℕ) (c : FlatConnection) → slice_get t.flat.connections k ≡ Some c → Notifies c.connector
    → HasPart t (NotificationOf k)
has_notification t k c e n =
    let p = part series.Ntfn k (OfConnection k) (NotificationOf k) in
    let P : Connector → Type 0 = λ z. IsIn p (notification_by k z) in
    let here : IsIn p (notification_by k c.connector) = elim n [
      | inl r ↦ subst P (sym r) (inl refl)
      | inr r ↦
          subst P (sym r) (inl refl)
    ] in (p, objects.has_notification t k c e p here, refl)

has_lock : (t : Tables) (d n leaf m : ℕ) (x : Domain) → slice_get t.flat.domains d ≡ Some x
    → slice_get (uses_at t d) n ≡ Some (OwnLock leaf m) → HasPart t (LockOf d n)
has_lock t d n leaf m x h u =
    let o = owned (OfDomain d) (LockOf d n) in
    let inner : IsIn o (domain_locks t d x) = in_gather (lock d) o (uses_at t d) n (OwnLock leaf m) u (inl refl) in
    numbered_part t 4 series.Lock (locks t) o refl (in_gather (domain_locks t) o t.flat.domains d x h inner)

has_irq : (t : Tables) (k : ℕ) (c : FlatConnection) → slice_get t.flat.connections k ≡ Some c → c.connector ≡ Interrupt
    → HasPart t (IrqOf k)
has_irq t k c e i =
    let o = owned (irq_owner k c) (IrqOf k) in
    let P : Connector → Type 0 = λ z. IsIn o (irq_by k (irq_owner k c) z) in
    numbered_part t 5 series.Irq (irqs t) o refl (in_gather irq o t.flat.connections k c e (subst P (sym i) (inl refl)))

has_thread : (t : Tables) (d i : ℕ) (x : Domain) (y : ThreadPlace) → slice_get t.flat.domains d ≡ Some x
    → slice_get (threads_at t d) i ≡ Some y → HasPart t (ThreadOf d i)
has_thread t d i x y h u =
    let o = owned (OfDomain d) (ThreadOf d i) in
    let f : ℕ → ThreadPlace → List Owned = λ n z. owned (OfDomain d) (ThreadOf d n) ∷ [] in
    let inner : IsIn o (domain_tcbs t d x) = in_gather f o (threads_at t d) i y u (inl refl) in
    numbered_part t 1 series.Tcb (tcbs t) o refl (in_gather (domain_tcbs t) o t.flat.domains d x h inner)

has_cnode : (t : Tables) (d : ℕ) (x : Domain) → slice_get t.flat.domains d ≡ Some x → HasPart t (CNodeOf d)
has_cnode t d x h = (part series.CNode d (OfDomain d) (CNodeOf d), objects.has_cnode t d x h, refl)

has_frame : (t : Tables) (f : ℕ) (x : FrameInfo) → slice_get t.spaces.frames f ≡ Some x → HasPart t (FrameOf f)
has_frame t f x h =
    let o = owned (frame_owner x.owner) (FrameOf f) in
    let g : ℕ → FrameInfo → List Owned = λ n z. owned (frame_owner z.owner) (FrameOf n) ∷ [] in
    numbered_part t 7 series.Frame (frame_parts t.spaces.frames) o refl (in_gather g o t.spaces.frames f x h (inl refl))

has_table : (t : Tables) (d j : ℕ) (x : Domain) (o : Object) → slice_get t.flat.domains d ≡ Some x
    → slice_get (tables_at t 0 0 d) j ≡ Some o → HasPart t (TableOf d j)
has_table t d j x o h u =
    let y = page_table d j (level_of o) in
    let f : ℕ → Object → List PageTable = λ n z. page_table d n (level_of z) ∷ [] in
    let g : ℕ → PageTable → List Part = λ m z. table_part (all_tables t) m z ∷ [] in
    let inner : IsIn y (domain_tables t d x) = in_gather f y (tables_at t 0 0 d) j o u (inl refl) in
    let n = place_of y (all_tables t) (in_gather (domain_tables t) y t.flat.domains d x h inner) in
    let p = table_part (all_tables t) n.0 y in
    (p, in_together (sections t) 6 (table_parts (all_tables t)) p refl (in_gather g p (all_tables t) n.0 y n.1 (inl refl)), refl)

pub has_part : (t : Tables) (w : What) → IsThere t w → HasPart t w
has_part t (CNodeOf d) h = has_cnode t d h.0 h.1
has_part t (ThreadOf d i) h = has_thread t d i h.0.0 h.1.0 h.0.1 h.1.1
has_part t (EndpointOf k) h = has_endpoint t k h.0 h.1 h.2
has_part t (NotificationOf k) h = has_notification t k h.0 h.1 h.2
has_part t (LockOf d n) h = has_lock t d n h.1.0 h.1.1 h.0.0 h.0.1 h.1.2
has_part t (IrqOf k) h = has_irq t k h.0 h.1 h.2
has_part t (TableOf d j) h = has_table t d j h.0.0 h.1.0 h.0.1 h.1.1
has_part t (FrameOf f) h = has_frame t f h.0 h.1

-- ---- its object stands at its place

pub object_there : (t : Tables) (w : What) → IsThere t w → object_at (spec_of t) (place t w) ≡ Some (object t w)
object_there t w h =
    let p = has_part t w h in
    let P : What → Type 0 = λ z. object_at (spec_of t) (place t z) ≡ Some (object t z) in
    subst P p.2 ((objects_stand t).object p.0 p.1)

pub kind_there : (t : Tables) (w : What) → IsThere t w → kind_at (spec_of t) (place t w) ≡ Some (kind_of_object (object t w))
kind_there t w h = ap (λ o. option_map kind_of_object o) (object_there t w h)

-- ---- parts are of what there is

abbrev is_table : What → Bool
is_table (TableOf d j) = true
is_table w = false

-- no page table
abbrev IsAlone : Tables → What → Type 0
IsAlone t w = IsThere t w × (is_table w ≡ false)

in_order : (t : Tables) (s : Series) (xs : List Owned) (p : Part) → ((x : Owned) → IsIn x xs → IsAlone t x.what)
    → IsIn p (numbered s xs) → IsAlone t p.what
in_order t s xs p h i = let f = from_numbered s xs p i in subst (λ w. IsAlone t w) (sym f.2) (h f.0 f.1)

-- what stands in a list of one
pub single : {X : Type 0} (x y : X) → IsIn y (x ∷ []) → x ≡ y
single x y (inl e) = e
single x y (inr i) = absurd i

of_cnode : (t : Tables) (o : Owned) → IsIn o (cnodes t.flat.domains) → IsAlone t o.what
of_cnode t o i = search (rules, from_gather, single)

of_thread : (t : Tables) (o : Owned) → IsIn o (tcbs t) → IsAlone t o.what
of_thread t o i = search (rules, from_gather, single)

of_endpoint : (t : Tables) (p : Part) → IsIn p (endpoints t) → IsAlone t p.what
of_endpoint t p i = search (rules, from_gather, single)

of_notification : (t : Tables) (p : Part) → IsIn p (notifications t) → IsAlone t p.what
of_notification t p i = search (rules, from_gather, single)

of_lock : (t : Tables) (o : Owned) → IsIn o (locks t) → IsAlone t o.what
of_lock t o i =
    let g = from_gather (domain_locks t) o t.flat.domains i in
    let u = from_gather (lock g.0) o (uses_at t g.0) g.3 in
    by_use u.1 g.0 u.0 u.3 (g.1, g.2) u.2
  where
    by_use : (u : SlotUse) (d n : ℕ) → IsIn o (lock d n u) → IsDomain t d → slice_get (uses_at t d) n ≡ Some u → IsAlone t o.what
    by_use (OwnLock leaf l) d n i x h = subst (λ (z : Owned). IsAlone t z.what) (single (owned (OfDomain d) (LockOf d n)) o i)
        ((x, (leaf, l, h)), refl)
    by_use _ d n i x h = absurd i

of_irq : (t : Tables) (o : Owned) → IsIn o (irqs t) → IsAlone t o.what
of_irq t o i = search (rules, from_gather, single)

of_table : (t : Tables) (p : Part) → IsIn p (table_parts (all_tables t)) → IsThere t p.what
of_table t p i =
    let f : ℕ → PageTable → List Part = λ m z. table_part (all_tables t) m z ∷ [] in
    let g = from_gather f p (all_tables t) i in
    let d = from_gather (domain_tables t) g.1 t.flat.domains (in_place g.1 (all_tables t) g.0 g.2) in
    let h : ℕ → Object → List PageTable = λ n z. page_table d.0 n (level_of z) ∷ [] in
    let o = from_gather h g.1 (tables_at t 0 0 d.0) d.3 in
    let there : IsThere t (TableOf d.0 o.0) = ((d.1, d.2), (o.1, o.2)) in
    let here : IsThere t (TableOf g.1.domain g.1.place) = search (rules, single) in
    subst (λ (z : Part). IsThere t z.what) {x = table_part (all_tables t) g.0 g.1}
    (single (table_part (all_tables t) g.0 g.1) p g.3) here

of_frame : (t : Tables) (o : Owned) → IsIn o (frame_parts t.spaces.frames) → IsAlone t o.what
of_frame t o i = search (rules, from_gather, single)

-- whatever holds of the parts of each section holds of each part
abbrev HoldsIn : (Part → Type 0) → List (List Part) → Type 0
HoldsIn P [] = Unit {0}
HoldsIn P (s ∷ ss) = ((p : Part) → IsIn p s → P p) × HoldsIn P ss

in_each : (P : Part → Type 0) (ss : List (List Part)) → HoldsIn P ss → (p : Part) → IsIn p (together ss) → P p
in_each P [] h p i = absurd i
in_each P (s ∷ ss) h p i = elim (in_append p s (together ss) i) [ inl j ↦ h.0 p j | inr j ↦ in_each P ss h.1 p j ]

pub by_section : (t : Tables) (P : Part → Type 0)
    → ((p : Part) → IsIn p (numbered series.CNode (cnodes t.flat.domains)) → P p)
    → ((p : Part) → IsIn p (numbered series.Tcb (tcbs t)) → P p)
    → ((p : Part) → IsIn p (endpoints t) → P p) → ((p : Part) → IsIn p (notifications t) → P p)
    → ((p : Part) → IsIn p (numbered series.Lock (locks t)) → P p) → ((p : Part) → IsIn p (numbered series.Irq (irqs t)) → P p)
    → ((p : Part) → IsIn p (table_parts (all_tables t)) → P p)
    → ((p : Part) → IsIn p (numbered series.Frame (frame_parts t.spaces.frames)) → P p)
    → (p : Part) → IsIn p (parts t) → P p
by_section t P a b c d e f g h p i = in_each P (sections t) (a, (b, (c, (d, (e, (f, (g, (h, tt)))))))) p i

pub there : (t : Tables) (p : Part) → IsIn p (parts t) → IsThere t p.what
there t = by_section t (λ p. IsThere t p.what)
    (λ p i. (in_order t series.CNode (cnodes t.flat.domains) p (of_cnode t) i).0)
    (λ p i. (in_order t series.Tcb (tcbs t) p (of_thread t) i).0)
    (λ p i. (of_endpoint t p i).0)
    (λ p i. (of_notification t p i).0)
    (λ p i. (in_order t series.Lock (locks t) p (of_lock t) i).0)
    (λ p i. (in_order t series.Irq (irqs t) p (of_irq t) i).0)
    (of_table t)
    (λ p i. (in_order t series.Frame (frame_parts t.spaces.frames) p (of_frame t) i).0)

-- so its domain or connection is one of those that there are
counted : (t : Tables) (w : What) → IsAlone t w → IsCounted t w
counted t (CNodeOf d) h = slice_get_within t.flat.domains d h.0.0 h.0.1
counted t (ThreadOf d i) h = slice_get_within t.flat.domains d h.0.0.0 h.0.0.1
counted t (IrqOf k) h = slice_get_within t.flat.connections k h.0.0 h.0.1
counted t (TableOf d j) h = let e = h.1 in cc
counted t _ h = tt

-- a part before page tables
pub alone : (t : Tables) (p : Part) → IsIn p (together (take 6 (sections t))) → IsCounted t p.what
alone t p i = counted t p.what (in_each (λ q. IsAlone t q.what) (take 6 (sections t)) (
  (λ q j. in_order t series.CNode (cnodes t.flat.domains) q (of_cnode t) j),
  (
    (λ q j. in_order t series.Tcb (tcbs t) q (of_thread t) j),
    (
      of_endpoint t,
      (
        of_notification t,
        (
          (λ q j. in_order t series.Lock (locks t) q (of_lock t) j),
          (
            (λ q j. in_order t series.Irq (irqs t) q (of_irq t) j),
            tt,
          ),
        ),
      ),
    ),
  ),
) p i)
