-- The spec of connected tables is laid out.
use Rattle.spec_laws.proofs.Common.{AreApart, Authority, CNodeOf, Cap, Directory, EndpointOf, Handler, HasPieces, Held, Holds, HoldsPlain, IrqOf, IsConnected, IsDomains, IsIn, IsKept, IsThere, Kind, Level, LockOf, NONE, None}
use Rattle.spec_laws.proofs.Common.{NotificationOf, Object, OfEnd, Option, OwnLock, RW, RootOf, SlotUse, Some, Tables, ThreadOf, ap, boot, confers, connection_label, device_end, domain_label, domain_no_connection, domain_no_device}
use Rattle.spec_laws.proofs.Common.{edge, has_label, inl, inr, irq_at, is_at, kind_of_object, kind_there, label_of, object, object_there, one_connection, one_domain, option_confers}
use Rattle.spec_laws.proofs.Common.{option_plain, place, place_of, plain_kind, policy_tables, refl, rights_at, rules, spec_of, subst, sym, tcb, thread, thread_place, threads_of, true, true≢false, use_cap, uses_at, ℕ, ◌+◌, ◌∙◌, ◌≡◌, ◌≢◌, ◌⊎◌}
use Rattle.arch_policy.specs.declared.owner.Owner.TheVariants as owners
use Rattle.arch_policy.specs.Policies.{IsLockEdge}
use Rattle.arch_policy.specs.Tables.{IsThere as HasLabel}
use Rattle.cap_model.specs.Kinds.{same_kind}
use Rattle.cap_model.specs.declared.kind.Kind.TheVariants as kinds
use Rattle.cap_model.specs.declared.object.Object.TheVariants as objects
use Rattle.reach_laws.specs.LaidOut.{IsLaidOut}
use Rattle.reach_laws.proofs.PieceEdges.{pieces_direct}
use Rattle.spec_laws.proofs.Uses.{uses_are}
use Rattle.spec_laws.proofs.EndsHere.{in_threads, leaves_are}
use Rattle.spec_laws.proofs.CapsFit.{rights_are}
use Rattle.spec_laws.proofs.EdgeJoints.{bound, device_here, given, holder, irq_label, joint_kind_at, joint_label, joints, node_label, slot_holds, used_in}
use Rattle.spec_laws.proofs.Mapped.{in_threads_at, laid}
use Rattle.spec_laws.proofs.Rows.{joint_kind, row_plain, slot_labelled}
use Rattle.spec_laws.proofs.ThreadsHere.{threads}
use Rattle.spec_laws.proofs.Used.{from_domain, from_end_uses, lock_used}
use Rattle.spec_laws.proofs.Whose.{IsAt, class_of, label_there, labels, object_stands, of_calls, of_notices}
use Rattle.spec_laws.proofs.WindowsHere.{windows}
use Rattle.reach_laws.specs.Plain.{is_plain}

no_pages : (level : Level) → same_kind (kinds.Pages level) kinds.Endpoint ≡ true → ⊥
no_pages Directory e = true≢false (sym e)
no_pages _ e = true≢false (sym e)

no_notice : (level : Level) → same_kind (kinds.Pages level) kinds.Notification ≡ true → ⊥
no_notice Directory e = true≢false (sym e)
no_notice _ e = true≢false (sym e)

module _ (t : Tables) (h : IsConnected t) where
  pub pieces : HasPieces (policy_tables t) (spec_of t) (labels t)
  pieces = record { joints = joints t h; given = given t h; threads = threads t h; windows = windows t h }

  -- ---- what is arranged

  rooted : (c i : ℕ) (held : Cap) → Holds (spec_of t) c i held → RootOf (spec_of t) (labels t) c
  rooted c i held there =
      let g = laid t h in let b = holder t c i held there in
      let d = b.domain in
      let f = from_domain t.source t.flat b.found.leaves b.used (used_in t h d b.number b.found b.used b.here b.at) in
      let x = thread f.0 None in
      let listed = subst (λ z. IsIn f.0 z) (sym (leaves_are g d b.found b.here)) f.1 in
      let n = place_of x (threads_of g d) (in_threads g d f.0 listed) in
      let at = in_threads_at t h d n.0 b.found x b.here n.1 in
      let there : IsThere t (ThreadOf d n.0) = ((b.found, b.here), (thread_place g d n.0 x, at)) in
      let is : object t (ThreadOf d n.0) ≡ objects.Thread (tcb t d (thread_place g d n.0 x)) = search (rules) in
      record {
        thread = place t (ThreadOf d n.0);
        tcb = tcb t d (thread_place g d n.0 x);
        stands = object_there t (ThreadOf d n.0) there ∙ ap (λ z. Some z) is;
        root = ap (λ z. Some z) b.node;
        label = label_there t (ThreadOf d n.0) there ∙ sym (sym (ap (label_of (labels t)) b.node)
            ∙ node_label t h d b.found b.here);
      }

  -- the label of a CNode that holds something is its domain's
  holder_label : (c i : ℕ) (held : Cap) → Holds (spec_of t) c i held → IsDomains (policy_tables t) (label_of (labels t) c)
  holder_label c i held there =
      let b = holder t c i held there in
      search (rules, labels, node_label)

  one_node : AreApart (policy_tables t) → (c d i j : ℕ) (a b : Cap) → Holds (spec_of t) c i a → Holds (spec_of t) d j b
      → label_of (labels t) c ≡ label_of (labels t) d → c ≡ d
  one_node apart c d i j a b here there e =
      let x = holder t c i a here in let y = holder t d j b there in
      let left = sym (ap (label_of (labels t)) x.node) ∙ node_label t h x.domain x.found x.here in
      let same = one_domain (policy_tables t) apart x.domain y.domain (x.found, x.here) (y.found, y.here)
      (sym left ∙ e ∙ (sym (ap (label_of (labels t)) y.node) ∙ node_label t h y.domain y.found y.here)) in
      sym x.node ∙ ap (λ z. place t (CNodeOf z)) same ∙ y.node

  -- an object of a kind
  kinded : (o : ℕ) (k : Kind) (n : ℕ) → ((x : Object) → same_kind (kind_of_object x) k ≡ true → class_of x ≡ n)
      → is_at (spec_of t) k o ≡ true → (x : Object) × IsAt t o x × (class_of x ≡ n)
  kinded o k n sort is = search (rules, class_of, object_stands)

  calls_sort : (x : Object) → same_kind (kind_of_object x) kinds.Endpoint ≡ true → class_of x ≡ 0
  calls_sort objects.Endpoint e = refl
  calls_sort (objects.Pages level slots) e = absurd (no_pages level e)
  calls_sort _ e = absurd (true≢false (sym e))

  notices_sort : (x : Object) → same_kind (kind_of_object x) kinds.Notification ≡ true → class_of x ≡ 1
  notices_sort objects.Notification e = refl
  notices_sort (objects.Pages level slots) e = absurd (no_notice level e)
  notices_sort _ e = absurd (true≢false (sym e))

  -- where calls come in, and where signals do
  pub endpoint_here : (o : ℕ) → is_at (spec_of t) kinds.Endpoint o ≡ true → (k : ℕ) × IsThere t (EndpointOf k)
      × (place t (EndpointOf k) ≡ o)
  endpoint_here o is =
      let x = kinded o kinds.Endpoint 0 calls_sort is in let at = x.1 in
      let w = of_calls at.what (at.sort ∙ x.2) in
      (w.0, subst (λ z. IsThere t z) w.1 at.there, subst (λ z. place t z ≡ o) w.1 at.stands)

  abbrev IsJoint : ℕ → Type 0
  IsJoint o = (k : ℕ) × IsThere t (NotificationOf k) × (place t (NotificationOf k) ≡ o)

  abbrev IsLockHere : ℕ → Type 0
  IsLockHere o = (d n : ℕ) × IsThere t (LockOf d n) × (place t (LockOf d n) ≡ o)

  notification_here : (o : ℕ) → is_at (spec_of t) kinds.Notification o ≡ true → IsJoint o ⊎ IsLockHere o
  notification_here o is =
      let x = kinded o kinds.Notification 1 notices_sort is in let at = x.1 in
      search (rules, of_notices)

  -- its connection has a label
  calls_label : (k : ℕ) → IsThere t (EndpointOf k) → HasLabel t.flat (owners.OfConnection k)
  calls_label k e = (e.0, e.1, ap has_label e.2)

  signal_label : (k : ℕ) → IsThere t (NotificationOf k) → HasLabel t.flat (owners.OfConnection k)
  signal_label k e = (e.0, e.1, elim e.2 [ inl i ↦ ap has_label i | inr i ↦ ap has_label i ])

  one_endpoint : AreApart (policy_tables t) → (o p : ℕ) → is_at (spec_of t) kinds.Endpoint o ≡ true
      → (is_at (spec_of t) kinds.Endpoint p ≡ true) ⊎ (is_at (spec_of t) kinds.Notification p ≡ true)
      → label_of (labels t) o ≡ label_of (labels t) p → o ≡ p
  one_endpoint apart o p is (inl other) e =
      let x = endpoint_here o is in let y = endpoint_here p other in
      let left = sym (ap (label_of (labels t)) x.2) ∙ label_there t (EndpointOf x.0) x.1 in
      sym x.2 ∙ ap (λ z. place t (EndpointOf z)) (one_connection (policy_tables t) apart x.0 y.0 (calls_label x.0 x.1)
      (calls_label y.0 y.1) (sym left ∙ e ∙ (sym (ap (label_of (labels t)) y.2) ∙ label_there t (EndpointOf y.0) y.1))) ∙ y.2
  one_endpoint apart o p is (inr other) e =
      let x = endpoint_here o is in
      let left = sym (ap (label_of (labels t)) x.2) ∙ label_there t (EndpointOf x.0) x.1 in
      elim (notification_here p other) [
        | inl y ↦
            let same = one_connection (policy_tables t) apart x.0 y.0 (calls_label x.0 x.1) (signal_label y.0 y.1)
            (sym left ∙ e ∙ (sym (ap (label_of (labels t)) y.2) ∙ label_there t (NotificationOf y.0) y.1)) in
            absurd (no_both x.0 y.0 same x.1 y.1)
        | inr y ↦
            let right = sym (ap (label_of (labels t)) y.3) ∙ label_there t (LockOf y.0 y.1) y.2 in
            absurd (domain_no_connection (policy_tables t) apart x.0 (record { domain = y.0; there = y.2.0; is = right })
            (calls_label x.0 x.1) (sym e ∙ left))
      ] where
        no_both : (j k : ℕ) → j ≡ k → IsThere t (EndpointOf j) → IsThere t (NotificationOf k) → ⊥
        no_both j k same a b = search (rules)

  -- ---- what stays within a label

  own_out : AreApart (policy_tables t) → (l : ℕ) (a : Authority) → Held (spec_of t) (labels t) (boot (spec_of t)) l a l
      → IsLockEdge (policy_tables t) (edge l a l)
  own_out apart l a (c, i, held, there, conf, from, to) =
      let b = holder t c i held there in let d = b.domain in
      let f = from_domain t.source t.flat b.found.leaves b.used (used_in t h d b.number b.found b.used b.here b.at) in
      let is : l ≡ domain_label (policy_tables t) d = search (rules, labels, node_label) in
      let mine : IsDomains (policy_tables t) l = record { domain = d; there = (b.found, b.here); is = is } in
      let leads : l ≡ label_of (labels t) (use_cap t d b.number b.used).object = search (rules, labels) in
      elim f.2 [
        | inl o ↦
            let k = o.place in
            let w = from_end_uses o.connection.connector o.end.role k o.number b.used o.use_is in
            elim w.1 [
              | inl same ↦
                  let label : l ≡ connection_label (policy_tables t) k = search (rules, labels, joint_label) in
                  absurd (domain_no_connection (policy_tables t) apart k mine (
                    o.connection,
                    o.here,
                    slot_labelled o.connection.connector o.end.role w.0,
                  ) label)
              | inr handler ↦
                  let label : l ≡ label_of (labels t) (place t (IrqOf k)) = search (rules, labels) in
                  let v = device_here t h k o.connection o.here handler.interrupt in
                  let device = device_end (policy_tables t) h.flat v.at v.device in
                  absurd (domain_no_device (policy_tables t) apart mine (search (rules, irq_label)))
            ]
        | inr lock ↦
            let leaf = f.0 in let m = lock.0 in
            let x = h.flat.owned d leaf b.found b.here f.1 in
            let u : b.used ≡ OwnLock leaf m = lock.1 in
            let there : IsThere t (LockOf d b.number) = ((b.found, b.here), (leaf, m, b.at ∙ ap (λ z. Some z) u)) in
            let conferred : confers (spec_of t) (use_cap t d b.number (OwnLock leaf m)) a ≡ true = search (rules) in
            record {
              lock = search (rules);
              from = is;
              conferred = sym (ap (λ z. option_confers z RW a) (kind_there t (LockOf d b.number) there)) ∙ conferred;
              to = is;
            }
      ]

  own_in : (l : ℕ) (a : Authority) → IsLockEdge (policy_tables t) (edge l a l)
      → Held (spec_of t) (labels t) (boot (spec_of t)) l a l
  own_in l a k =
      let x = k.lock in let d = x.domain in
      let w = h.flat.listed x.leaf d x.found x.here x.inside in
      let u : SlotUse = OwnLock x.leaf x.member in
      let inside = lock_used t.source t.flat w.0.leaves x.leaf x.member x.found x.lock w.2 x.here x.declared in
      let n = place_of u (uses_at t d) (subst (λ z. IsIn u z) (sym (uses_are t h.slots d w.0 w.1)) inside) in
      let there : IsThere t (LockOf d n.0) = ((w.0, w.1), (x.leaf, x.member, n.1)) in (
        place t (CNodeOf d),
        n.0 + 1,
        use_cap t d n.0 u,
        slot_holds t d n.0 w.0 u w.1 n.1,
        ap (λ z. option_confers z RW a) (kind_there t (LockOf d n.0) there) ∙ k.conferred,
        k.from ∙ sym (node_label t h d w.0 w.1),
        k.to ∙ sym (label_there t (LockOf d n.0) there),
      )

  -- ---- interrupts

  signals : AreApart (policy_tables t) → (c i d n : ℕ) (held : Cap) → Holds (spec_of t) c i held
      → irq_at (boot (spec_of t)) d ≡ Some n → label_of (labels t) c ≢ label_of (labels t) d
  signals apart c i d n held there is e =
      let b = bound t h d n is in let v = device_here t h b.connection b.found b.here b.interrupt in
      let device = device_end (policy_tables t) h.flat v.at v.device in
      domain_no_device (policy_tables t) apart (holder_label c i held there) (search (rules, labels, irq_label))

  -- ---- what is held is plain

  pub holds_plain : HoldsPlain (spec_of t)
  holds_plain c i held there =
      let b = holder t c i held there in let d = b.domain in
      let f = from_domain t.source t.flat b.found.leaves b.used (used_in t h d b.number b.found b.used b.here b.at) in
      subst (λ z. is_plain (spec_of t) z ≡ true) b.is (elim f.2 [
        | inl o ↦
            let k = o.place in
            let w = from_end_uses o.connection.connector o.end.role k o.number b.used o.use_is in
            elim w.1 [
              | inl same ↦
                  let plain : is_plain (spec_of t) (use_cap t d b.number (OfEnd k o.number)) ≡ true =
                  ap (λ x. option_plain x (rights_at t k o.number)) (joint_kind_at t k o.connection o.end.role o.here w.0)
                  ∙ ap (λ x. plain_kind (joint_kind o.connection.connector) x) (rights_are t k o.number o.connection o.end
                  o.here o.stands) ∙ row_plain o.connection.connector o.end.role w.0 in
                  subst (λ z. is_plain (spec_of t) (use_cap t d b.number z) ≡ true) same plain
              | inr handler ↦
                  let plain : is_plain (spec_of t) (use_cap t d b.number (Handler k o.number)) ≡ true =
                  ap (λ x. option_plain x NONE) (kind_there t (IrqOf k) (o.connection, o.here, handler.interrupt)) in
                  subst (λ z. is_plain (spec_of t) (use_cap t d b.number z) ≡ true) handler.is plain
            ]
        | inr lock ↦
            let u : b.used ≡ OwnLock f.0 lock.0 = lock.1 in
            let own : IsThere t (LockOf d b.number) = ((b.found, b.here), (f.0, lock.0, b.at ∙ ap (λ z. Some z) u)) in
            let plain : is_plain (spec_of t) (use_cap t d b.number (OwnLock f.0 lock.0)) ≡ true =
            ap (λ x. option_plain x RW) (kind_there t (LockOf d b.number) own) in
            subst (λ z. is_plain (spec_of t) (use_cap t d b.number z) ≡ true) (sym u) plain
      ])

  -- ---- all

  pub laid_out : AreApart (policy_tables t) → IsKept (spec_of t) → IsLaidOut (policy_tables t) (spec_of t) (labels t)
  laid_out apart kept = search (rules, rooted, one_node, one_endpoint, pieces_direct, labels, pieces, own_out, own_in, signals)
