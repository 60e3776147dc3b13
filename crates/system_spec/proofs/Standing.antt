-- Each part stands at its place
use Rattle.system_spec.proofs.Common.{CNodeOf, Connector, Domain, EndpointOf, FrameInfo, FrameOf, Interrupt, IrqOf, IsIn, List, LockOf, Notification, NotificationOf, Object, OfConnection, OfDomain, OwnLock, Owned, Owner, PageTable, Part, Rpc, Series}
use Rattle.system_spec.proofs.Common.{SlotUse, Some, TableOf, Tables, ThreadOf, ThreadPlace, [], all_tables, ap, arith, before, cnodes, domain_locks, domain_tables, domain_tcbs, endpoint, endpoint_by, endpoints, first_of, flat_map, frame_owner}
use Rattle.system_spec.proofs.Common.{frame_parts, from_ones, from_place, inl, inr, irq, irq_by, irq_owner, irqs, length, length_append, level_of, lock, locks, notification, notification_by, notifications, numbered, owned, page_table, part, parts}
use Rattle.system_spec.proofs.Common.{place, place_of, sections, single, slice_get, split_get, sym, table_part, table_parts, tables_at, tcbs, threads_at, together, uses_at, ℕ, ◌++◌, ◌+◌, ◌∙◌, ◌∷◌, ◌≡◌}
use Rattle.std.proofs.lemmas.List.Concat.{flat_map-append}
use Rattle.system_spec.specs.declared.series.Series.TheVariants as series

-- ---- each section

-- parts of these items stand in order from `first` on
of_items : (t : Tables) (s : Series) (xs : List Owned) (first : ℕ) → ((j : ℕ) (x : Owned) → slice_get xs j ≡ Some x
    → place t x.what ≡ first + j) → (j : ℕ) (p : Part) → slice_get (numbered s xs) j ≡ Some p → place t p.what ≡ first + j
of_items t s xs first h j p e =
    let f : ℕ → Owned → Part = λ n x. part s n x.owner x.what in
    let o = from_ones f xs j p e in
    ap (λ (z : Part). place t z.what) (sym o.2) ∙ h j o.0 o.1

cnodes_stand : (t : Tables) (j : ℕ) (x : Owned) → slice_get (cnodes t.flat.domains) j ≡ Some x → place t x.what ≡ first_of t 0 + j
cnodes_stand t j x e =
    let f : ℕ → Domain → Owned = λ d z. owned (OfDomain d) (CNodeOf d) in
    let o = from_ones f t.flat.domains j x e in
    ap (λ (z : Owned). place t z.what) (sym o.2)

tcbs_stand : (t : Tables) (j : ℕ) (x : Owned) → slice_get (tcbs t) j ≡ Some x → place t x.what ≡ first_of t 1 + j
tcbs_stand t j x e =
    let g = from_place (domain_tcbs t) t.flat.domains j x e in
    let f : ℕ → ThreadPlace → Owned = λ i z. owned (OfDomain g.place) (ThreadOf g.place i) in
    let o = from_ones f (threads_at t g.place) g.number x g.stands in
    let at : j ≡ before (domain_tcbs t) t.flat.domains g.place + g.number = g.sum in
    ap (λ (z : Owned). place t z.what) (sym o.2) ∙ omega (arith, at)

endpoints_stand : (t : Tables) (j : ℕ) (p : Part) → slice_get (endpoints t) j ≡ Some p → place t p.what ≡ first_of t 2 + j
endpoints_stand t j p e =
    let g = from_place endpoint t.flat.connections j p e in
    by_kind g.item.connector g.place g.number g.stands g.sum
  where
    by_kind : (c : Connector) (k i : ℕ) → slice_get (endpoint_by k c) i ≡ Some p → j ≡ before endpoint t.flat.connections k + i
        → place t p.what ≡ first_of t 2 + j
    by_kind Rpc k i h a = let s = single (part _ k (OfConnection k) (EndpointOf k)) p i h in let z = s.0 in
        ap (λ (q : Part). place t q.what) (sym s.1) ∙ omega (arith, a, z)
    by_kind _ k i h a = cc

notifications_stand : (t : Tables) (j : ℕ) (p : Part) → slice_get (notifications t) j ≡ Some p → place t p.what ≡ first_of t 3 + j
notifications_stand t j p e =
    let g = from_place notification t.flat.connections j p e in
    by_kind g.item.connector g.place g.number g.stands g.sum
  where
    by_kind : (c : Connector) (k i : ℕ) → slice_get (notification_by k c) i ≡ Some p
        → j ≡ before notification t.flat.connections k + i → place t p.what ≡ first_of t 3 + j
    by_kind Notification k i h a = let s = single (part _ k (OfConnection k) (NotificationOf k)) p i h in let z = s.0 in
        ap (λ (q : Part). place t q.what) (sym s.1) ∙ omega (arith, a, z)
    by_kind Interrupt k i h a = let s = single (part _ k (OfConnection k) (NotificationOf k)) p i h in let z = s.0 in
        ap (λ (q : Part). place t q.what) (sym s.1) ∙ omega (arith, a, z)
    by_kind _ k i h a = cc

locks_stand : (t : Tables) (j : ℕ) (x : Owned) → slice_get (locks t) j ≡ Some x → place t x.what ≡ first_of t 4 + j
locks_stand t j x e =
    let g = from_place (domain_locks t) t.flat.domains j x e in
    let u = from_place (lock g.place) (uses_at t g.place) g.number x g.stands in
    by_use u.item g.place u.place g.number u.number u.stands g.sum u.sum
  where
    by_use : (u : SlotUse) (d n i m : ℕ) → slice_get (lock d n u) m ≡ Some x → j ≡ before (domain_locks t) t.flat.domains d + i
        → i ≡ before (lock d) (uses_at t d) n + m → place t x.what ≡ first_of t 4 + j
    by_use (OwnLock leaf l) d n i m h a b = let s = single (owned (OfDomain d) (LockOf d n)) x m h in let z = s.0 in
        ap (λ (q : Owned). place t q.what) (sym s.1) ∙ omega (arith, a, b, z)
    by_use _ d n i m h a b = cc

irqs_stand : (t : Tables) (j : ℕ) (x : Owned) → slice_get (irqs t) j ≡ Some x → place t x.what ≡ first_of t 5 + j
irqs_stand t j x e =
    let g = from_place irq t.flat.connections j x e in
    by_kind g.item.connector g.place (irq_owner g.place g.item) g.number g.stands g.sum
  where
    by_kind : (c : Connector) (k : ℕ) (o : Owner) (i : ℕ) → slice_get (irq_by k o c) i ≡ Some x
        → j ≡ before irq t.flat.connections k + i → place t x.what ≡ first_of t 5 + j
    by_kind Interrupt k o i h a = let s = single (owned o (IrqOf k)) x i h in let z = s.0 in
        ap (λ (q : Owned). place t q.what) (sym s.1) ∙ omega (arith, a, z)
    by_kind _ k o i h a = cc

tables_stand : (t : Tables) (j : ℕ) (p : Part) → slice_get (table_parts (all_tables t)) j ≡ Some p
    → place t p.what ≡ first_of t 6 + j
tables_stand t j p e =
    let f : ℕ → PageTable → Part = λ m x. table_part (all_tables t) m x in
    let o = from_ones f (all_tables t) j p e in
    let g = from_place (domain_tables t) t.flat.domains j o.0 o.1 in
    let h : ℕ → Object → PageTable = λ i z. page_table g.place i (level_of z) in
    let q = from_ones h (tables_at t 0 0 g.place) g.number o.0 g.stands in
    let at : j ≡ before (domain_tables t) t.flat.domains g.place + g.number = g.sum in
    ap (λ (z : Part). place t z.what) (sym o.2) ∙ ap (λ (z : PageTable). place t (TableOf z.domain z.place)) (sym q.2)
    ∙ omega (arith, at)

frames_stand : (t : Tables) (j : ℕ) (x : Owned) → slice_get (frame_parts t.spaces.frames) j ≡ Some x
    → place t x.what ≡ first_of t 7 + j
frames_stand t j x e =
    let f : ℕ → FrameInfo → Owned = λ i z. owned (frame_owner z.owner) (FrameOf i) in
    let o = from_ones f t.spaces.frames j x e in
    ap (λ (z : Owned). place t z.what) (sym o.2)

-- ---- all

pub same : {X : Type 0} (x y : X) → Some x ≡ Some y → y ≡ x
same x y e = cc

-- in each of these lists, which stand behind others, part j stands j places behind the front
abbrev StandBehind : Tables → List (List Part) → List (List Part) → Type 0
StandBehind t front [] = Unit {0}
StandBehind t front (s ∷ ss) =
    ((j : ℕ) (p : Part) → slice_get s j ≡ Some p → place t p.what ≡ length (together front) + j)
    × StandBehind t (front ++ s ∷ []) ss

behind : (t : Tables) (front ss : List (List Part)) → StandBehind t front ss → (m : ℕ) (p : Part)
    → slice_get (together ss) m ≡ Some p → place t p.what ≡ length (together front) + m
behind t front [] h m p e = cc
behind t front (s ∷ ss) h m p e = elim (split_get s (together ss) m p e) [
  | inl here ↦ h.0 m p here
  | inr later ↦
      let at = later.1 in
      let ih = behind t (front ++ s ∷ []) ss h.1 later.0 p later.2 in
      let long = ap (λ (z : List Part). length z) (flat_map-append (λ (z : List Part). z) front (s ∷ [])) in
      let more = length_append (together front) (s ++ []) in
      let last = length_append s [] in
      omega (arith, at, ih, long, more, last)
]

-- where a part is found, there is its place
pub place_is : (t : Tables) (m : ℕ) (p : Part) → slice_get (parts t) m ≡ Some p → place t p.what ≡ m
place_is t m p e = let at = behind t [] (sections t) (
  of_items t series.CNode (cnodes t.flat.domains) (first_of t 0) (cnodes_stand t),
  (
    of_items t series.Tcb (tcbs t) (first_of t 1) (tcbs_stand t),
    (
      endpoints_stand t,
      (
        notifications_stand t,
        (
          of_items t series.Lock (locks t) (first_of t 4) (locks_stand t),
          (
            of_items t series.Irq (irqs t) (first_of t 5) (irqs_stand t),
            (
              tables_stand t,
              (
                of_items t series.Frame (frame_parts t.spaces.frames) (first_of t 7) (frames_stand t),
                tt,
              ),
            ),
          ),
        ),
      ),
    ),
  ),
) m p e in omega (arith, at)

pub stands : (t : Tables) (p : Part) → IsIn p (parts t) → slice_get (parts t) (place t p.what) ≡ Some p
stands t p i = let m = place_of p (parts t) i in ap (slice_get (parts t)) (place_is t m.0 p m.1) ∙ m.1
