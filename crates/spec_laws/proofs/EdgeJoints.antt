-- What CNodes hold, and what interrupts may signal.
use Rattle.spec_laws.proofs.Common.{AtOtherEnd, Authority, CNodeOf, Cap, Connector, Contains, DirectReason, Domain, EndpointOf, FlatConnection, From, Handle, Handler, Held, Holds, Interrupt, IrqOf, IsAccess, IsConnected}
use Rattle.spec_laws.proofs.Common.{IsIn, IsThere, LeadsTo, LockOf, NONE, Node, None, Notification, NotificationOf, Object, ObjectKind, OfEnd, OfIrq, OfJoints, OfNotification, OwnLock, Role, Rpc, SlotUse, Some, Spec, Tables, To}
use Rattle.spec_laws.proofs.Common.{ap, arith, at_contains, at_entry, boot, boot_irq, boot_node, boot_slot, confers, connection_label, contains_at, domain_label, domain_uses, edge, end_rule, end_uses, false, from_ones, get_ones, gives, in_place, inl}
use Rattle.spec_laws.proofs.Common.{inr, irq_at, is_at_device, joint, joint_by, kind_at, kind_confers, kind_of_object, kind_there, label_of, label_of_leaf, leaf_label, map, no_node, node_at, number_of, object, object_there, opposite, option_confers}
use Rattle.spec_laws.proofs.Common.{option_map, owner_in, place, place_of, policy_tables, refl, rights_at, rules, setting_of, slice_get, slice_get-map, slots_at, spec_of, subst, sym, true, use_cap, uses_at, ℕ, ◌+◌, ◌∙◌, ◌≡◌, ◌≢◌, ◌⊎◌}
use Rattle.arch_policy.specs.Ends.{EndAt}
use Rattle.arch_policy.specs.Tables.{Tables as Policy}
use Rattle.cap_model.specs.Auth.{OfIrq as OfSignal}
use Rattle.cap_model.specs.declared.kind.Kind.TheVariants as kinds
use Rattle.cap_model.specs.declared.object.Object.TheVariants as objects
use Rattle.cap_model.specs.declared.state.Content.TheVariants.{Capability}
use Rattle.cap_model.proofs.BootPlaces.{slot_of}
use Rattle.reach_laws.proofs.EndLabels.{same_connection}
use Rattle.spec_laws.proofs.Uses.{uses_are}
use Rattle.spec_laws.proofs.Devices.{DeviceOf, device_found, device_label}
use Rattle.spec_laws.proofs.Rows.{OfSlot, IsHandling, IsSignalling, device_role, given_by, joint_kind, joint_leaves, joint_no_frames, joint_object, only_handle, row_law, slot_soft}
use Rattle.spec_laws.proofs.CapsFit.{joint_is, rights_are}
use Rattle.spec_laws.proofs.Used.{UseOf, end_in_uses, from_domain, from_end_uses, has_slot, in_domain}
use Rattle.spec_laws.proofs.Whose.{IsAt, boots, entry_is, label_there, labels, of_interrupt, of_node}

module _ (t : Tables) where
  abbrev pub spec : Spec
  spec = spec_of t

  -- ---- what a CNode holds

  -- the capability of a use of its domain
  pub record HeldBy (c : ℕ) (held : Cap) : Type 0 where
    pub domain : ℕ
    pub found : Domain
    pub here : slice_get t.flat.domains domain ≡ Some found
    pub node : place t (CNodeOf domain) ≡ c
    pub number : ℕ
    pub used : SlotUse
    pub at : slice_get (uses_at t domain) number ≡ Some used
    pub is : use_cap t domain number used ≡ held

  of_object : (c i : ℕ) (held : Cap) (o : Object) → IsAt t c o → Contains (boot_node o).slots (i, Capability held) → HeldBy c held
  of_object c i held (objects.CNode bits slots) at there =
      let w = of_node at.what at.sort in let d = w.0 in
      let here : IsThere t (CNodeOf d) = subst (λ z. IsThere t z) w.1 at.there in
      let is : object t (CNodeOf d) ≡ objects.CNode bits slots = subst (λ z. object t z ≡ objects.CNode bits slots) w.1 at.is in
      let same : slots ≡ slots_at t d = cc in
      let k = contains_at (map boot_slot (slots_at t d)) (i, Capability held)
      (subst (λ z. Contains (map boot_slot z) (i, Capability held)) same there) in
      let s = slot_of (slots_at t d) k.0 i (Capability held) k.1 in
      let u = from_ones (λ n u. (n + 1, use_cap t d n u)) (uses_at t d) k.0 s.0 s.1 in
      let content : Capability s.0.1 ≡ Capability held = s.2 in
      let slot : s.0.1 ≡ held = cc in
      let own : use_cap t d k.0 u.0 ≡ s.0.1 = ap (λ (z : ℕ × Cap). z.1) {x = (k.0 + 1, use_cap t d k.0 u.0)} u.2 in
      search (rules)
  of_object c i held _ at there = absurd (let w = there.1 in omega arith)

  pub holder : (c i : ℕ) (held : Cap) → Holds spec c i held → HeldBy c held
  holder c i held there = elim (at_entry boot_node spec.entries c no_node) [
    | inl found ↦ of_object c i held found.0.object (entry_is t c found.0 found.1)
        (subst (λ (n : Node). Contains n.slots (i, Capability held)) found.2 there)
    | inr none ↦ search (rules)
  ]

  pub slot_holds : (d n : ℕ) (x : Domain) (u : SlotUse) → slice_get t.flat.domains d ≡ Some x → slice_get (uses_at t d) n ≡ Some u
      → Holds spec (place t (CNodeOf d)) (n + 1) (use_cap t d n u)
  slot_holds d n x u e s =
      let c = place t (CNodeOf d) in let held = use_cap t d n u in
      let there : node_at (boot spec) c ≡ boot_node (object t (CNodeOf d)) = boots spec boot_node c (object t (CNodeOf d)) no_node
      (object_there t (CNodeOf d) (x, e)) in
      let slot : slice_get (slots_at t d) n ≡ Some (n + 1, held) = get_ones (λ n u. (n + 1, use_cap t d n u))
      (uses_at t d) n u s in
      subst (λ (z : Node). Contains z.slots (n + 1, Capability held)) (sym there) (at_contains (map boot_slot (slots_at t d))
      (n + 1, Capability held) n (slice_get-map boot_slot (slots_at t d) n ∙ ap (option_map boot_slot) slot))

  -- ---- the objects of connections

  pub joint_there : (k : ℕ) (c : FlatConnection) (r : Role) → slice_get t.flat.connections k ≡ Some c
      → has_slot c.connector r ≡ true → IsThere t (joint_by k c.connector)
  joint_there k c r h s = search (rules, has_slot)

  joint_kinds : (k : ℕ) (y : Connector) → kind_of_object (object t (joint_by k y)) ≡ joint_kind y
  joint_kinds k Notification = refl
  joint_kinds k _ = refl

  joint_label_by : (k : ℕ) (y : Connector) → IsThere t (joint_by k y)
      → label_of (labels t) (place t (joint_by k y)) ≡ connection_label (policy_tables t) k
  joint_label_by k Rpc h = label_there t (EndpointOf k) h
  joint_label_by k _ h = label_there t (NotificationOf k) h

  pub joint_kind_at : (k : ℕ) (c : FlatConnection) (r : Role) → slice_get t.flat.connections k ≡ Some c
      → has_slot c.connector r ≡ true → kind_at spec (place t (joint t k)) ≡ Some (joint_kind c.connector)
  joint_kind_at k c r h s = search (rules, joint_is, kind_there, joint_there, joint_kinds)

  pub joint_label : (k : ℕ) (c : FlatConnection) (r : Role) → slice_get t.flat.connections k ≡ Some c
      → has_slot c.connector r ≡ true → label_of (labels t) (place t (joint t k)) ≡ connection_label (policy_tables t) k
  joint_label k c r h s = ap (λ z. label_of (labels t) (place t z)) (joint_is t k c h) ∙ joint_label_by k c.connector
      (joint_there k c r h s)

  pub end_confers : (x : EndAt t.flat) (a : Authority) → has_slot x.connection.connector x.end.role ≡ true
      → option_confers (kind_at spec (place t (joint t x.place))) (rights_at t x.place x.number) a ≡ gives x.connection.connector
      x.end.role (joint_object x.connection.connector) a
  end_confers x a s =
      ap (λ z. option_confers z (rights_at t x.place x.number) a) (joint_kind_at x.place x.connection x.end.role x.here s)
      ∙ ap (λ z. kind_confers (joint_kind x.connection.connector) z a) (rights_are t x.place x.number x.connection x.end
      x.here x.stands) ∙ row_law x.connection.connector x.end.role a s

  leads_joint : (x : EndAt t.flat) (y : Connector) (label : ℕ) → label ≡ connection_label (policy_tables t) x.place
      → LeadsTo (policy_tables t) x (joint_object y) label
  leads_joint x Notification label h = h
  leads_joint x _ label h = h

  from_joint : (x : EndAt t.flat) (y : Connector) (label : ℕ) → LeadsTo (policy_tables t) x (joint_object y) label
      → label ≡ connection_label (policy_tables t) x.place
  from_joint x Notification label h = h
  from_joint x _ label h = h

  module _ (h : IsConnected t) where
    abbrev pub policy : Policy
    policy = policy_tables t

    pub node_label : (d : ℕ) (x : Domain) → slice_get t.flat.domains d ≡ Some x
        → label_of (labels t) (place t (CNodeOf d)) ≡ domain_label policy d
    node_label d x e = label_there t (CNodeOf d) (x, e)

    -- the label of a leaf of a domain
    pub leaf_of_domain : (d l : ℕ) (x : Domain) → slice_get t.flat.domains d ≡ Some x → IsIn l x.leaves
        → leaf_label policy l ≡ domain_label policy d
    leaf_of_domain d l x e i =
        let o = h.flat.owned d l x e i in
        label_of_leaf policy l o.0 o.1 ∙ ap (λ z. number_of t.numbers (owner_in l z)) o.2

    pub used_in : (d n : ℕ) (x : Domain) (u : SlotUse) → slice_get t.flat.domains d ≡ Some x → slice_get (uses_at t d) n ≡ Some u
        → IsIn u (domain_uses t.source t.flat x.leaves)
    used_in d n x u e s = subst (λ z. IsIn u z) (uses_are t h.slots d x e) (in_place u (uses_at t d) n s)

    abbrev pub end_used : {leaf : ℕ} {u : SlotUse} → UseOf t.flat.connections leaf u → EndAt t.flat
    end_used o = record {
      place = o.place;
      connection = o.connection;
      here = o.here;
      number = o.number;
      end = o.end;
      stands = o.stands;
    }

    pub device_here : (k : ℕ) (c : FlatConnection) → slice_get t.flat.connections k ≡ Some c → c.connector ≡ Interrupt
        → DeviceOf t h.flat k c
    device_here k c e i = device_found t h.flat k c e (h.flat.interrupts k c e i)

    -- the device's end of an interrupt is its `from` end
    pub device_from : (k : ℕ) (c : FlatConnection) (d : DeviceOf t h.flat k c) → c.connector ≡ Interrupt → d.at.end.role ≡ From
    device_from k c d i = search (rules, device_role)

    pub irq_label : (k : ℕ) (c : FlatConnection) (e : slice_get t.flat.connections k ≡ Some c) (i : c.connector ≡ Interrupt)
        → label_of (labels t) (place t (IrqOf k)) ≡ leaf_label policy (device_here k c e i).at.end.leaf
    irq_label k c e i = label_there t (IrqOf k) (c, e, i) ∙ device_label t h.flat k c e (device_here k c e i)

    given_as : (c d : Connector) (r q : Role) (o : ObjectKind) (a b : Authority) → c ≡ d → r ≡ q → a ≡ b → gives d q o b ≡ true
        → gives c r o a ≡ true
    given_as c d r q o a b e f g k = ap (λ z. gives z r o a) e ∙ ap (λ z. gives d z o a) f ∙ ap (λ z. gives d q o z) g ∙ k

    -- ---- what is held is given directly

    held_direct : (l : ℕ) (a : Authority) (m : ℕ) → l ≢ m → Held spec (labels t) (boot spec) l a m
        → DirectReason policy (edge l a m)
    held_direct l a m differ (c, i, held, there, conf, from, to) =
        let b = holder c i held there in let d = b.domain in
        let f = from_domain t.source t.flat b.found.leaves b.used (used_in d b.number b.found b.used b.here b.at) in
        let mine : l ≡ domain_label policy d = from ∙ ap (label_of (labels t)) (sym b.node) ∙ node_label d b.found b.here in
        let conferred : confers spec (use_cap t d b.number b.used) a ≡ true = search (rules) in
        let leads : m ≡ label_of (labels t) (use_cap t d b.number b.used).object = search (rules, labels) in
        elim f.2 [
          | inl o ↦
              let x = end_used o in
              let owned : l ≡ leaf_label policy o.end.leaf = search (rules, leaf_of_domain) in
              let w = from_end_uses o.connection.connector o.end.role o.place o.number b.used o.use_is in
              elim w.1 [
                | inl same ↦
                    let given : gives o.connection.connector o.end.role (joint_object o.connection.connector) a ≡ true =
                    sym (end_confers x a w.0) ∙ subst (λ z. confers spec (use_cap t d b.number z) a ≡ true)
                    (sym same) conferred in
                    let label : m ≡ connection_label policy o.place = search (rules, labels, joint_label) in
                    record {
                      at = x;
                      object = joint_object o.connection.connector;
                      given = given;
                      left = joint_leaves o.connection.connector o.end.role (joint_object o.connection.connector)
                          (setting_of t.settled o.place o.number) a (joint_no_frames o.connection.connector) given;
                      from = owned;
                      to = leads_joint x o.connection.connector m label;
                    }
                | inr handler ↦
                    let k = o.place in
                    let is : confers spec (use_cap t d b.number (Handler k o.number)) a ≡ true = search (rules) in
                    let handle : a ≡ Handle =
                    only_handle a
                    (sym
                    (ap (λ z. option_confers z NONE a) (kind_there t (IrqOf k) (o.connection, o.here, handler.interrupt)))
                    ∙ is) in
                    let label : m ≡ label_of (labels t) (place t (IrqOf k)) = search (rules, labels) in
                    let v = device_here k o.connection o.here handler.interrupt in
                    let given : gives o.connection.connector o.end.role OfIrq a ≡ true = search (rules, given_as) in
                    record {
                      at = x;
                      object = OfIrq;
                      given = given;
                      left = joint_leaves o.connection.connector o.end.role OfIrq (setting_of t.settled o.place o.number)
                          a refl given;
                      from = owned;
                      to = record {
                        at = v.at;
                        same = v.place;
                        role = device_from k o.connection v handler.interrupt ∙ ap opposite (sym handler.receives);
                        label_is = label ∙ irq_label k o.connection o.here handler.interrupt;
                      };
                    }
              ]
          | inr lock ↦
              let u : b.used ≡ OwnLock f.0 lock.0 = lock.1 in
              let label : m ≡ label_of (labels t) (place t (LockOf d b.number)) = search (rules, labels) in
              let own = label_there t (LockOf d b.number) ((b.found, b.here), (f.0, lock.0, b.at ∙ ap (λ z. Some z) u)) in
              absurd (differ (mine ∙ sym (label ∙ own)))
        ]

    -- ---- interrupts

    -- an interrupt that may signal, and the notification of its connection
    pub record Bound (o n : ℕ) : Type 0 where
      pub connection : ℕ
      pub found : FlatConnection
      pub here : slice_get t.flat.connections connection ≡ Some found
      pub interrupt : found.connector ≡ Interrupt
      pub irq : place t (IrqOf connection) ≡ o
      pub notification : place t (NotificationOf connection) ≡ n

    of_irq_object : (o n : ℕ) (x : Object) → IsAt t o x → boot_irq x ≡ Some n → Bound o n
    of_irq_object o n (objects.Irq notification) at there = search (rules, of_interrupt)
    of_irq_object o n _ at there = absurd cc

    pub bound : (o n : ℕ) → irq_at (boot spec) o ≡ Some n → Bound o n
    bound o n there = elim (at_entry boot_irq spec.entries o None) [
      | inl found ↦ of_irq_object o n found.0.object (entry_is t o found.0 found.1) (sym found.2 ∙ there)
      | inr none ↦ absurd (let w = sym none ∙ there in cc)
    ]

    signal_direct : (l : ℕ) (a : Authority) (m : ℕ) → OfSignal (labels t) (boot spec) l a m → DirectReason policy (edge l a m)
    signal_direct l a m (o, n, there, is, from, to) =
        let b = bound o n there in let k = b.connection in
        let v = device_here k b.found b.here b.interrupt in let r = device_from k b.found v b.interrupt in
        let i : v.at.connection.connector ≡ Interrupt = ap (λ (z : FlatConnection). z.connector) v.connection ∙ b.interrupt in
        let given : gives v.at.connection.connector v.at.end.role OfNotification a ≡ true = search (rules, given_as) in
        record {
          at = v.at;
          object = OfNotification;
          given = given;
          left = joint_leaves v.at.connection.connector v.at.end.role OfNotification (setting_of t.settled v.at.place v.at.number)
              a refl given;
          from = from ∙ ap (label_of (labels t)) (sym b.irq) ∙ irq_label k b.found b.here b.interrupt;
          to = to ∙ ap (label_of (labels t)) (sym b.notification) ∙ label_there t (NotificationOf k)
              (b.found, b.here, inr b.interrupt) ∙ ap (connection_label policy) (sym v.place);
        }

    pub joints : (l : ℕ) (a : Authority) (m : ℕ) → l ≢ m → OfJoints spec (labels t) l a m → DirectReason policy (edge l a m)
    joints l a m differ (inl held) = held_direct l a m differ held
    joints l a m differ (inr signal) = signal_direct l a m signal

    -- ---- what is given directly is held

    -- the domain of an end of software
    pub record InDomain (x : EndAt t.flat) : Type 0 where
      pub domain : ℕ
      pub found : Domain
      pub here : slice_get t.flat.domains domain ≡ Some found
      pub listed : IsIn x.end.leaf found.leaves
      pub label : leaf_label policy x.end.leaf ≡ domain_label policy domain

    pub in_its_domain : (x : EndAt t.flat) → is_at_device x ≡ false → InDomain x
    in_its_domain x soft =
        let j = h.flat.joined x in let d = h.flat.software x j.leaf soft j.here in
        let l = h.flat.listed x.end.leaf d.0 j.leaf j.here d.1 in
        record { domain = d.0; found = l.0; here = l.1; listed = l.2; label = leaf_of_domain d.0 x.end.leaf l.0 l.1 l.2 }

    -- a use of an end, held by the CNode of its domain
    pub use_held : (x : EndAt t.flat) (u : SlotUse) (i : InDomain x)
        → IsIn u (end_uses x.connection.connector x.end.role x.place x.number)
        → (n : ℕ) × Holds spec (place t (CNodeOf i.domain)) (n + 1) (use_cap t i.domain n u)
    use_held x u i e =
        let j = h.flat.joined x in
        let o : UseOf t.flat.connections x.end.leaf u = search (rules) in
        let there = in_domain t.source t.flat i.found.leaves u x.end.leaf j.leaf o j.member i.listed j.here j.joins in
        let n =
        place_of u (uses_at t i.domain) (subst (λ z. IsIn u z) (sym (uses_are t h.slots i.domain i.found i.here)) there) in
        (n.0, slot_holds i.domain n.0 i.found u i.here n.1)

    slot_given : (l : ℕ) (a : Authority) (m : ℕ) (d : DirectReason policy (edge l a m))
        → OfSlot d.at.connection.connector d.at.end.role d.object → Held spec (labels t) (boot spec) l a m
    slot_given l a m d s =
        let x = d.at in let c = x.connection.connector in
        let r = x.end.role in let i = in_its_domain x (slot_soft c r s.slot) in
        let u = use_held x (OfEnd x.place x.number) i (end_in_uses c r x.place x.number s.slot) in
        let given : gives c r (joint_object c) a ≡ true = subst (λ z. gives c r z a ≡ true) s.object d.given in
        let leads : m ≡ connection_label policy x.place = from_joint x c m (subst (λ z. LeadsTo policy x z m) s.object d.to) in (
          place t (CNodeOf i.domain),
          u.0 + 1,
          use_cap t i.domain u.0 (OfEnd x.place x.number),
          u.1,
          end_confers x a s.slot ∙ given,
          d.from ∙ i.label ∙ sym (node_label i.domain i.found i.here),
          leads ∙ sym (joint_label x.place x.connection r x.here s.slot),
        )

    -- the two ends at the device are one
    pub one_end : (x y : EndAt t.flat) → y.place ≡ x.place → is_at_device x ≡ true → is_at_device y ≡ true
        → y.end.leaf ≡ x.end.leaf
    one_end x y e a b = search (rules)

    from_device : (c : Connector) (r : Role) → c ≡ Interrupt → r ≡ From → (end_rule c r).hardware ≡ true
    from_device c r e f = ap (λ z. (end_rule z r).hardware) e ∙ ap (λ z. (end_rule Interrupt z).hardware) f

    soft_to : (c : Connector) (r : Role) → c ≡ Interrupt → r ≡ To → (end_rule c r).hardware ≡ false
    soft_to c r e f = ap (λ z. (end_rule z r).hardware) e ∙ ap (λ z. (end_rule Interrupt z).hardware) f

    handler_use : (c : Connector) (r : Role) (k n : ℕ) → c ≡ Interrupt → r ≡ To → IsIn (Handler k n) (end_uses c r k n)
    handler_use c r k n e f = subst (λ z. IsIn (Handler k n) (end_uses z r k n)) (sym e)
        (subst (λ z. IsIn (Handler k n) (end_uses Interrupt z k n)) (sym f) (inr (inl refl)))

    handling_given : (l : ℕ) (a : Authority) (m : ℕ) (d : DirectReason policy (edge l a m))
        → IsHandling d.at.connection.connector d.at.end.role d.object a → Held spec (labels t) (boot spec) l a m
    handling_given l a m d s =
        let x = d.at in let k = x.place in
        let i = in_its_domain x (soft_to x.connection.connector x.end.role s.connector s.role) in
        let u = use_held x (Handler k x.number) i (handler_use x.connection.connector x.end.role k x.number s.connector s.role) in
        let other : AtOtherEnd policy x m = subst (λ z. LeadsTo policy x z m) s.object d.to in
        let v = device_here k x.connection x.here s.connector in
        let same = same_connection policy x other.at other.same in
        let hard : is_at_device other.at ≡ true = from_device other.at.connection.connector other.at.end.role
        (ap (λ (z : FlatConnection). z.connector) same ∙ s.connector) (other.role ∙ ap opposite s.role) in
        let leaf : other.at.end.leaf ≡ v.at.end.leaf = one_end v.at other.at (other.same ∙ sym v.place) v.device hard in (
          place t (CNodeOf i.domain),
          u.0 + 1,
          use_cap t i.domain u.0 (Handler k x.number),
          u.1,
          ap (λ z. option_confers z NONE a) (kind_there t (IrqOf k) (x.connection, x.here, s.connector))
              ∙ ap (λ z. kind_confers kinds.Irq NONE z) s.authority,
          d.from ∙ i.label ∙ sym (node_label i.domain i.found i.here),
          other.label_is ∙ ap (leaf_label policy) leaf ∙ sym (irq_label k x.connection x.here s.connector),
        )

    signalling_given : (l : ℕ) (a : Authority) (m : ℕ) (d : DirectReason policy (edge l a m))
        → IsSignalling d.at.connection.connector d.at.end.role d.object a → OfSignal (labels t) (boot spec) l a m
    signalling_given l a m d s =
        let x = d.at in let k = x.place in
        let v = device_here k x.connection x.here s.connector in
        let hard : is_at_device x ≡ true = from_device x.connection.connector x.end.role s.connector s.role in
        let leaf : x.end.leaf ≡ v.at.end.leaf = one_end v.at x (sym v.place) v.device hard in
        let leads : m ≡ connection_label policy k = subst (λ z. LeadsTo policy x z m) s.object d.to in (
          place t (IrqOf k),
          place t (NotificationOf k),
          boots spec boot_irq (place t (IrqOf k)) (object t (IrqOf k)) None
              (object_there t (IrqOf k) (x.connection, x.here, s.connector)),
          s.authority,
          d.from ∙ ap (leaf_label policy) leaf ∙ sym (irq_label k x.connection x.here s.connector),
          leads ∙ sym (label_there t (NotificationOf k) (x.connection, x.here, inr s.connector)),
        )

    pub given : (l : ℕ) (a : Authority) (m : ℕ) → l ≢ m → DirectReason policy (edge l a m)
        → IsAccess a ⊎ OfJoints spec (labels t) l a m
    given l a m differ d = elim (given_by d.at.connection.connector d.at.end.role d.object a d.given) [
      | inl access ↦ inl access
      | inr (inl slot) ↦ inr (inl (slot_given l a m d slot))
      | inr (inr (inl handling)) ↦ inr (inl (handling_given l a m d handling))
      | inr (inr (inr signalling)) ↦ inr (inr (signalling_given l a m d signalling))
    ]
