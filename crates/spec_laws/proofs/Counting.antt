-- How many parts there are, and what a count of each kind of part comes to.
use Rattle.spec_laws.proofs.Common.{CNodeOf, Connector, Domain, EndpointOf, FlatConnection, FrameInfo, FrameOf, Interrupt, IrqOf, List, LockOf, Notification, NotificationOf, Object, OfDomain, OwnLock, Owned}
use Rattle.spec_laws.proofs.Common.{PageTable, Part, Rpc, Series, SlotUse, Some, TableOf, Tables, ThreadOf, ThreadPlace, What, [], all_tables, ap, arith, cnodes, domain_tables, endpoint, endpoint_by}
use Rattle.spec_laws.proofs.Common.{endpoints, frame_owner, frame_parts, irqs, length, level_of, locks, notification, notification_by, notifications, numbered, owned, page_table, part, parts, refl, slice_get, sym, table_part}
use Rattle.spec_laws.proofs.Common.{rules, table_parts, tables_at, tcbs, thread_count, threads_at, use_count, uses_at, ℕ, ◌*◌, ◌++◌, ◌+◌, ◌∙◌, ◌∷◌, ◌≡◌, ◌≤◌}
use Rattle.system_spec.specs.declared.series.Series.TheVariants as series
use Rattle.system_spec.specs.Parts.{irq as irq_of, lock as lock_of}
use Rattle.spec_laws.proofs.Totals.{sum_ones, total, total_append, total_gather, total_ones, totals, totals_add, totals_each, totals_most, totals_same, totals_times}

module _ (t : Tables) (w : What → ℕ) where
  abbrev of_part : Part → ℕ
  of_part p = w p.what

  abbrev of_owned : Owned → ℕ
  of_owned x = w x.what

  -- parts count as what they are numbered from
  of_numbered : (s : Series) (xs : List Owned) → total of_part (numbered s xs) ≡ total of_owned xs
  of_numbered s xs = total_ones of_part (λ n x. part s n x.owner x.what) xs ∙ places xs where
    places : (xs : List Owned) → totals (λ (n : ℕ) x. of_owned x) xs ≡ total of_owned xs
    places [] = refl
    places (x ∷ xs) = ap (λ n. of_owned x + n) (places xs)

  abbrev of_cnodes : ℕ
  of_cnodes = totals (λ d (x : Domain). w (CNodeOf d)) t.flat.domains

  abbrev of_threads : ℕ
  of_threads = totals (λ d (x : Domain). totals (λ i (y : ThreadPlace). w (ThreadOf d i)) (threads_at t d)) t.flat.domains

  abbrev of_endpoints : ℕ
  of_endpoints = totals (λ k (c : FlatConnection). total of_part (endpoint_by k c.connector)) t.flat.connections

  abbrev of_notifications : ℕ
  of_notifications = totals (λ k (c : FlatConnection). total of_part (notification_by k c.connector)) t.flat.connections

  abbrev of_locks : ℕ
  of_locks = totals (λ d (x : Domain). totals (λ n (u : SlotUse). total of_owned (lock_of d n u)) (uses_at t d)) t.flat.domains

  abbrev of_irqs : ℕ
  of_irqs = totals (λ k (c : FlatConnection). total of_owned (irq_of k c)) t.flat.connections

  abbrev of_tables : ℕ
  of_tables = totals (λ d (x : Domain). totals (λ j (o : Object). w (TableOf d j)) (tables_at t 0 0 d)) t.flat.domains

  abbrev of_frames : ℕ
  of_frames = totals (λ f (x : FrameInfo). w (FrameOf f)) t.spaces.frames

  cnodes_are : total of_part (numbered series.CNode (cnodes t.flat.domains)) ≡ of_cnodes
  cnodes_are = of_numbered series.CNode (cnodes t.flat.domains) ∙ total_ones of_owned
      (λ d (x : Domain). owned (OfDomain d) (CNodeOf d)) t.flat.domains

  threads_are : total of_part (numbered series.Tcb (tcbs t)) ≡ of_threads
  threads_are = search (rules, of_numbered, total_gather, totals_same, total, totals, total_ones)

  endpoints_are : total of_part (endpoints t) ≡ of_endpoints
  endpoints_are = total_gather of_part endpoint t.flat.connections

  notifications_are : total of_part (notifications t) ≡ of_notifications
  notifications_are = total_gather of_part notification t.flat.connections

  locks_are : total of_part (numbered series.Lock (locks t)) ≡ of_locks
  locks_are = search (rules, of_numbered, total_gather, totals_same, total, totals)

  irqs_are : total of_part (numbered series.Irq (irqs t)) ≡ of_irqs
  irqs_are = of_numbered series.Irq (irqs t) ∙ total_gather of_owned irq_of t.flat.connections

  tables_are : total of_part (table_parts (all_tables t)) ≡ of_tables
  tables_are =
      let of_table : PageTable → ℕ = λ x. w (TableOf x.domain x.place) in
      total_ones of_part (λ m (x : PageTable). table_part (all_tables t) m x) (all_tables t) ∙ places (all_tables t)
      ∙ total_gather of_table (domain_tables t) t.flat.domains
      ∙ totals_same (λ d (x : Domain). total of_table (domain_tables t d x)) (λ d x. totals (λ j (o : Object). w (TableOf d j))
      (tables_at t 0 0 d)) t.flat.domains
      (λ d x e. total_ones of_table (λ j (o : Object). page_table d j (level_of o)) (tables_at t 0 0 d)) where
        places : (xs : List PageTable) → totals (λ (n : ℕ) (x : PageTable). w (TableOf x.domain x.place)) xs ≡ total
            (λ (x : PageTable). w (TableOf x.domain x.place)) xs
        places [] = refl
        places (x ∷ xs) = ap (λ n. w (TableOf x.domain x.place) + n) (places xs)

  frames_are : total of_part (numbered series.Frame (frame_parts t.spaces.frames)) ≡ of_frames
  frames_are = of_numbered series.Frame (frame_parts t.spaces.frames) ∙ total_ones of_owned
      (λ f (x : FrameInfo). owned (frame_owner x.owner) (FrameOf f)) t.spaces.frames

  total_eight : (a b c d e f g h : List Part) → total of_part (a ++ (b ++ (c ++ (d ++ (e ++ (f ++ (g ++ (h ++ []))))))))
      ≡ total of_part
      a + (total of_part
      b + (total of_part
      c + (total of_part d + (total of_part e + (total of_part f + (total of_part g + (total of_part h + 0)))))))
  total_eight a b c d e f g h = search (rules, total_append)

  -- what all parts count
  pub parts_count : total of_part
      (parts t) ≡ of_cnodes
      + (of_threads + (of_endpoints + (of_notifications + (of_locks + (of_irqs + (of_tables + (of_frames + 0)))))))
  parts_count =
      let whole = total_eight (numbered series.CNode (cnodes t.flat.domains)) (numbered series.Tcb (tcbs t)) (endpoints t)
      (notifications t) (numbered series.Lock (locks t)) (numbered series.Irq (irqs t)) (table_parts (all_tables t))
      (numbered series.Frame (frame_parts t.spaces.frames)) in
      omega (arith, whole, cnodes_are, threads_are, endpoints_are, notifications_are, locks_are, irqs_are, tables_are, frames_are)

  -- ---- bounds

  -- at most so much of a part of each kind; tables and CNodes count by domain
  pub record Most (cnode : ℕ → ℕ) (thread joint lock irq : ℕ) (table : ℕ → ℕ) (frame : ℕ) : Type 0 where
    pub cnodes : (d : ℕ) (x : Domain) → slice_get t.flat.domains d ≡ Some x → w (CNodeOf d) ≤ cnode d
    pub threads : (d i : ℕ) → w (ThreadOf d i) ≤ thread
    pub endpoints : (k : ℕ) → w (EndpointOf k) ≤ joint
    pub notifications : (k : ℕ) → w (NotificationOf k) ≤ joint
    pub locks : (d n : ℕ) → w (LockOf d n) ≤ lock
    pub irqs : (k : ℕ) → w (IrqOf k) ≤ irq
    pub tables : (d : ℕ) (x : Domain) → slice_get t.flat.domains d ≡ Some x
        → totals (λ j (o : Object). w (TableOf d j)) (tables_at t 0 0 d) ≤ table d
    pub frames : (f : ℕ) → w (FrameOf f) ≤ frame

  module _ (cnode : ℕ → ℕ) (thread joint lock irq : ℕ) (table : ℕ → ℕ) (frame : ℕ)
      (most : Most cnode thread joint lock irq table frame) where
    threads_most : of_threads ≤ thread * thread_count t
    threads_most =
        let each : ℕ → Domain → ℕ = λ d x. thread * length (threads_at t d) in
        let a = totals_most (λ d (x : Domain). totals (λ i (y : ThreadPlace). w (ThreadOf d i)) (threads_at t d)) each
        t.flat.domains
        (λ d x e. totals_each (λ i (y : ThreadPlace). w (ThreadOf d i)) thread (threads_at t d) (λ i y h. most.threads d i)) in
        let b : totals each t.flat.domains ≡ thread * thread_count t =
        totals_times thread (λ d (x : Domain). length (threads_at t d)) t.flat.domains
        ∙ ap (λ n. thread * n) (sym (sum_ones (λ d (x : Domain). length (threads_at t d)) t.flat.domains)) in
        omega (arith, a, b)

    joints_most : of_endpoints + of_notifications ≤ joint * length t.flat.connections
    joints_most =
        let f : ℕ → FlatConnection → ℕ = λ k c. total of_part (endpoint_by k c.connector) in
        let g : ℕ → FlatConnection → ℕ = λ k c. total of_part (notification_by k c.connector) in
        let a = totals_each (λ k c. f k c + g k c) joint t.flat.connections (λ k c e. by_kind c.connector k) in
        omega (arith, a, totals_add f g t.flat.connections) where
          by_kind : (c : Connector) (k : ℕ) → total of_part (endpoint_by k c) + total of_part (notification_by k c) ≤ joint
          by_kind Rpc k = let l = most.endpoints k in omega (arith, l)
          by_kind Notification k = let l = most.notifications k in omega (arith, l)
          by_kind Interrupt k = let l = most.notifications k in omega (arith, l)
          by_kind _ k = omega arith

    locks_most : of_locks ≤ lock * use_count t
    locks_most =
        let each : ℕ → Domain → ℕ = λ d x. lock * length (uses_at t d) in
        let a = totals_most (λ d (x : Domain). totals (λ n (u : SlotUse). total of_owned (lock_of d n u)) (uses_at t d)) each
        t.flat.domains
        (λ d x e. totals_each (λ n (u : SlotUse). total of_owned (lock_of d n u)) lock (uses_at t d) (λ n u h. by_use u d n)) in
        let b : totals each t.flat.domains ≡ lock * use_count t = totals_times lock (λ d (x : Domain). length (uses_at t d))
        t.flat.domains ∙ ap (λ n. lock * n) (sym (sum_ones (λ d (x : Domain). length (uses_at t d)) t.flat.domains)) in
        omega (arith, a, b) where
          by_use : (u : SlotUse) (d n : ℕ) → total of_owned (lock_of d n u) ≤ lock
          by_use (OwnLock leaf m) d n = let l = most.locks d n in omega (arith, l)
          by_use _ d n = omega arith

    irqs_most : of_irqs ≤ irq * length t.flat.connections
    irqs_most = search (rules, totals_each, total)

    pub parts_most : total of_part (parts t)
        ≤ totals (λ d (x : Domain). cnode d)
        t.flat.domains + (thread * thread_count
        t + (joint * length t.flat.connections + (lock * use_count t + (irq * length t.flat.connections
        + (totals (λ d (x : Domain). table d) t.flat.domains + frame * length t.spaces.frames)))))
    parts_most = grind (arith, totals_most, totals, totals_each, parts_count, threads_most, joints_most, locks_most)
