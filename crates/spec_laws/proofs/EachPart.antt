-- What holds of the parts of what there is, of each sort, holds of every part.
use Rattle.spec_laws.proofs.Common.{CNodeOf, Connector, Domain, EndpointOf, FlatConnection, FrameInfo, FrameOf, Interrupt, IrqOf, IsIn, List, LockOf, Notification, NotificationOf, Object, OfConnection, OfDomain, OwnLock, Owned, PageTable}
use Rattle.spec_laws.proofs.Common.{Part, Rpc, Series, SlotUse, Some, Tables, ThreadOf, ThreadPlace, [], all_tables, by_section, cnodes, domain_locks, domain_tables, domain_tcbs, endpoint, endpoints, frame_owner, frame_parts, from_gather}
use Rattle.spec_laws.proofs.Common.{in_place, irq, irq_by, irq_owner, irqs, lock, locks, notification, notifications, numbered, owned, page_table, part, parts, single, slice_get, subst, table_part, table_parts, tables_at, tcbs, threads_at}
use Rattle.spec_laws.proofs.Common.{rules, uses_at, ℕ, ◌∷◌, ◌≡◌, before, from_ones, from_place, arith, inr, refl, ◌+◌, ◌⊎◌}
use Rattle.page_tables.specs.Levels.{level_of}
use Rattle.system_spec.specs.declared.series.Series.TheVariants as series
use Rattle.cam_base.proofs.NumberedLists.{single as the_one}

module _ (t : Tables) (P : Part → Type 0) where
  pub record OfEach : Type 0 where
    pub cnode : (d : ℕ) (x : Domain) → slice_get t.flat.domains d ≡ Some x → P (part series.CNode d (OfDomain d) (CNodeOf d))
    pub thread : (n d i : ℕ) (x : ThreadPlace) → slice_get (threads_at t d) i ≡ Some x
        → P (part series.Tcb n (OfDomain d) (ThreadOf d i))
    pub endpoint : (k : ℕ) (c : FlatConnection) → slice_get t.flat.connections k ≡ Some c → c.connector ≡ Rpc
        → P (part series.Ep k (OfConnection k) (EndpointOf k))
    pub notification : (k : ℕ) (c : FlatConnection) → slice_get t.flat.connections k ≡ Some c
        → (c.connector ≡ Notification) ⊎ (c.connector ≡ Interrupt) → P (part series.Ntfn k (OfConnection k) (NotificationOf k))
    pub lock : (n d i leaf m : ℕ) (x : Domain) → slice_get t.flat.domains d ≡ Some x
        → slice_get (uses_at t d) i ≡ Some (OwnLock leaf m)
        → n ≡ before (domain_locks t) t.flat.domains d + before (lock d) (uses_at t d) i
        → P (part series.Lock n (OfDomain d) (LockOf d i))
    pub irq : (n k : ℕ) (c : FlatConnection) → slice_get t.flat.connections k ≡ Some c → c.connector ≡ Interrupt
        → n ≡ before irq t.flat.connections k → P (part series.Irq n (irq_owner k c) (IrqOf k))
    pub table : (n d j : ℕ) (o : Object) → slice_get (tables_at t 0 0 d) j ≡ Some o
        → P (table_part (all_tables t) n (page_table d j (level_of o)))
    pub frame : (f : ℕ) (x : FrameInfo) → slice_get t.spaces.frames f ≡ Some x
        → P (part series.Frame f (frame_owner x.owner) (FrameOf f))

  in_order : (s : Series) (xs : List Owned) → ((n : ℕ) (x : Owned) → slice_get xs n ≡ Some x → P (part s n x.owner x.what))
      → (p : Part) → IsIn p (numbered s xs) → P p
  in_order s xs h p i = search (rules, from_gather, single)

  module _ (each : OfEach) where
    abbrev Numbered : Series → ℕ → Owned → Type 0
    Numbered s n x = P (part s n x.owner x.what)

    of_cnode : (n : ℕ) (x : Owned) → slice_get (cnodes t.flat.domains) n ≡ Some x → Numbered series.CNode n x
    of_cnode n x e =
        let g = from_ones (λ d (z : Domain). owned (OfDomain d) (CNodeOf d)) t.flat.domains n x e in
        subst (Numbered series.CNode n) g.2 (each.cnode n g.0 g.1)

    of_thread : (n : ℕ) (x : Owned) → slice_get (tcbs t) n ≡ Some x → Numbered series.Tcb n x
    of_thread n x e =
        let g = from_gather (domain_tcbs t) x t.flat.domains (in_place x (tcbs t) n e) in
        let h = from_gather (λ n z. owned (OfDomain g.0) (ThreadOf g.0 n) ∷ []) x (threads_at t g.0) g.3 in
        subst (Numbered series.Tcb n) (single (owned (OfDomain g.0) (ThreadOf g.0 h.0)) x h.3) (each.thread n g.0 h.0 h.1 h.2)

    of_endpoint : (p : Part) → IsIn p (endpoints t) → P p
    of_endpoint p i = search (rules, from_gather, single)

    of_notification : (p : Part) → IsIn p (notifications t) → P p
    of_notification p i = search (rules, from_gather, single)

    of_lock : (n : ℕ) (x : Owned) → slice_get (locks t) n ≡ Some x → Numbered series.Lock n x
    of_lock n x e =
        let g = from_place (domain_locks t) t.flat.domains n x e in
        let w = from_place (lock g.place) (uses_at t g.place) g.number x g.stands in
        by_use g.place w.place g.item g.here w.item w.here w.number w.stands (omega (arith, g.sum, w.sum)) where
          by_use : (d k : ℕ) (z : Domain) → slice_get t.flat.domains d ≡ Some z → (u : SlotUse)
              → slice_get (uses_at t d) k ≡ Some u
              → (i : ℕ) → slice_get (lock d k u) i ≡ Some x
              → n ≡ before (domain_locks t) t.flat.domains d + before (lock d) (uses_at t d) k + i → Numbered series.Lock n x
          by_use d k z h (OwnLock leaf m) s i there sum =
              let o = the_one (owned (OfDomain d) (LockOf d k)) x i there in
              subst (Numbered series.Lock n) o.1 (each.lock n d k leaf m z h s (omega (arith, sum, o.0)))
          by_use d k z h _ s i there sum = cc

    of_irq : (n : ℕ) (x : Owned) → slice_get (irqs t) n ≡ Some x → Numbered series.Irq n x
    of_irq n x e =
        let g = from_place irq t.flat.connections n x e in
        by_kind g.item.connector g.place g.item g.here refl g.number g.stands g.sum where
          by_kind : (m : Connector) (k : ℕ) (c : FlatConnection) → slice_get t.flat.connections k ≡ Some c → c.connector ≡ m
              → (i : ℕ) → slice_get (irq_by k (irq_owner k c) m) i ≡ Some x → n ≡ before irq t.flat.connections k + i
              → Numbered series.Irq n x
          by_kind Interrupt k c h e i there sum =
              let o = the_one (owned (irq_owner k c) (IrqOf k)) x i there in
              subst (Numbered series.Irq n) o.1 (each.irq n k c h e (omega (arith, sum, o.0)))
          by_kind _ k c h e i there sum = cc

    of_table : (p : Part) → IsIn p (table_parts (all_tables t)) → P p
    of_table p i =
        let g = from_gather (λ m z. table_part (all_tables t) m z ∷ []) p (all_tables t) i in
        let d = from_gather (domain_tables t) g.1 t.flat.domains (in_place g.1 (all_tables t) g.0 g.2) in
        let o = from_gather (λ n z. page_table d.0 n (level_of z) ∷ []) g.1 (tables_at t 0 0 d.0) d.3 in
        let y = page_table d.0 o.0 (level_of o.1) in
        subst P {x = table_part (all_tables t) g.0 g.1} (single (table_part (all_tables t) g.0 g.1) p g.3)
        (subst (λ (z : PageTable). P (table_part (all_tables t) g.0 z)) {x = y} (single y g.1 o.3)
        (each.table g.0 d.0 o.0 o.1 o.2))

    of_frame : (n : ℕ) (x : Owned) → slice_get (frame_parts t.spaces.frames) n ≡ Some x → Numbered series.Frame n x
    of_frame n x e =
        let g = from_ones (λ n (z : FrameInfo). owned (frame_owner z.owner) (FrameOf n)) t.spaces.frames n x e in
        subst (Numbered series.Frame n) g.2 (each.frame n g.0 g.1)

    pub of_every : (p : Part) → IsIn p (parts t) → P p
    of_every =
        by_section t P (in_order series.CNode (cnodes t.flat.domains) of_cnode) (in_order series.Tcb (tcbs t) of_thread)
        of_endpoint of_notification (in_order series.Lock (locks t) of_lock) (in_order series.Irq (irqs t) of_irq) of_table
        (in_order series.Frame (frame_parts t.spaces.frames) of_frame)
