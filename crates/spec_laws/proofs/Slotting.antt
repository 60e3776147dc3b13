-- CNodes have the capabilities of their uses
use Rattle.spec_laws.proofs.Common.{CNode, CNodeOf, CanSlot, Cap, Connector, Domain, EndpointOf, FlatConnection, FlatEnd, From, Handler, Interrupt, IrqOf, IsBadge, IsCNodeOf, IsCapOf, IsEndCap, IsIn, IsIrqOf, IsJoint, IsLockCap, IsNamed}
use Rattle.spec_laws.proofs.Common.{List, LockOf, NotificationOf, OfConnection, OfDomain, OfEnd, OwnLock, Role, Rpc, SlotUse, Some, Spec, Tables, To, [], ap, arith, badge_at, before, bits_for, domain_uses, from_gather}
use Rattle.spec_laws.proofs.Common.{gather, gather_ones, in_gather, inl, inr, interrupt, irq_number, irq_owner, joint_by, least, length, line_by, lines, name_at, notification_by, object_at, objects_stand, part}
use Rattle.spec_laws.proofs.Common.{parts_are_there, place, refl, rights_at, rows_of, rules, slice_get, slots_at, spec_of, subst, sym, true, use_cap, uses_at, ℕ, ◌+◌, ◌<◌, ◌^◌, ◌∙◌, ◌∷◌, ◌≡◌}
use Rattle.adl_meaning.specs.declared.connector.Connector.TheVariants.{Notification as Notifies}
use Rattle.conn_rules.specs.declared.rule.RuleRow.{RuleRow}
use Rattle.system_spec.specs.declared.series.Series.TheVariants as series
use Rattle.spec_laws.proofs.CapsFit.{end_is as end_there, joint_is}
use Rattle.spec_laws.proofs.Numbering.{irq_part, lock_number, lock_numbered, lock_part}
use Rattle.spec_laws.proofs.SlotLists.{order_has}
use Rattle.spec_laws.proofs.Used.{has_slot}
use Rattle.spec_laws.proofs.Uses.{IsEnd, IsUse, is_use, uses_are}

-- the first row of an end
first_row : (c : Connector) (r : Role) → has_slot c r ≡ true → (row : RuleRow) × (slice_get (rows_of c r) 0 ≡ Some row)
first_row Rpc From h = (_, refl)
first_row Rpc To h = (_, refl)
first_row Notifies From h = (_, refl)
first_row Notifies To h = (_, refl)
first_row Interrupt To h = (_, refl)
first_row _ _ h = cc

-- ---- capabilities

module _ (t : Tables) (can : CanSlot t) where
  abbrev spec : Spec
  spec = spec_of t

  notification_named : (k : ℕ) (c : FlatConnection) → slice_get t.flat.connections k ≡ Some c
      → IsIn (part series.Ntfn k (OfConnection k) (NotificationOf k)) (notification_by k c.connector)
      → IsNamed spec (place t (NotificationOf k)) series.Ntfn k
  notification_named k c h i = (objects_stand t).name (part series.Ntfn k (OfConnection k) (NotificationOf k))
      ((parts_are_there t).notification k c h (part series.Ntfn k (OfConnection k) (NotificationOf k)) i)

  joint : (k : ℕ) (c : FlatConnection) (r : Role) → slice_get t.flat.connections k ≡ Some c → has_slot c.connector r ≡ true
      → IsJoint spec (place t (joint_by k c.connector)) c.connector k
  joint k c r h j = by_kind c.connector refl j where
    by_kind : (n : Connector) → c.connector ≡ n → has_slot n r ≡ true → IsJoint spec (place t (joint_by k n)) n k
    by_kind Rpc e f = (objects_stand t).name (part series.Ep k (OfConnection k) (EndpointOf k))
        ((parts_are_there t).endpoint k c h e)
    by_kind Notifies e f = let P : Connector → Type 0 = λ n. IsIn (part series.Ntfn k (OfConnection k) (NotificationOf k))
        (notification_by k n) in notification_named k c h (subst P (sym e) (inl refl))
    by_kind Interrupt e f = let P : Connector → Type 0 = λ n. IsIn (part series.Ntfn k (OfConnection k) (NotificationOf k))
        (notification_by k n) in notification_named k c h (subst P (sym e) (inl refl))
    by_kind _ e f = cc

  badge : (k n : ℕ) (c : FlatConnection) (e : FlatEnd) → slice_get t.flat.connections k ≡ Some c → slice_get c.ends n ≡ Some e
      → IsBadge t k n e.role (badge_at t k n)
  badge k n c e h s = search (rules, end_there)

  rights : (k n : ℕ) (c : FlatConnection) (e : FlatEnd) (row : RuleRow) → slice_get t.flat.connections k ≡ Some c
      → slice_get c.ends n ≡ Some e → slice_get (rows_of c.connector e.role) 0 ≡ Some row → rights_at t k n ≡ row.rights
  rights k n c e row h s f = search (rules, end_there)

  end_is : (d n k m : ℕ) → IsEnd t.flat.connections k m → IsEndCap t spec k m (use_cap t d n (OfEnd k m))
  end_is d n k m o = search (rules, first_row, joint, joint_is, rights, badge)

  pub irq_is : (k : ℕ) (c : FlatConnection) → slice_get t.flat.connections k ≡ Some c → c.connector ≡ Interrupt
      → IsIrqOf t spec k (place t (IrqOf k))
  irq_is k c h e =
      let there = irq_part t k c h e in
      let p = part series.Irq (before interrupt t.flat.connections k) (irq_owner k c) (IrqOf k) in
      let v = can.devices k c h e in let s = can.settled k v.0 c v.1 h v.3 in
      let P : Connector → Type 0 = λ n. IsIn (part series.Ntfn k (OfConnection k) (NotificationOf k)) (notification_by k n) in
      let set : irq_number t.settled k c ≡ s.0.irq = search (rules) in
      let line : ℕ × ℕ = (irq_number t.settled k c, place t (IrqOf k)) in
      let Q : Connector → Type 0 = λ n. IsIn line (line_by t k c n) in
      let F : ℕ → FlatConnection → List (ℕ × ℕ) = λ k c. line_by t k c c.connector in
      let listed = in_gather F line t.flat.connections k c h (subst Q (sym e) (inl refl)) in
      let R : ℕ → Type 0 = λ z. (let p : ℕ × ℕ = (z, place t (IrqOf k)) in IsIn p (lines t)) in
      record {
        connection = c;
        here = h;
        named = (objects_stand t).name p there;
        notification = place t (NotificationOf k);
        is = (objects_stand t).object p there;
        holds = notification_named k c h (subst P (sym e) (inl refl));
        number = v.0;
        device = v.2;
        setting = s.0;
        settled = s.1;
        line = subst R set (order_has line (gather F t.flat.connections) listed);
      }

  lock_is : (d n leaf m : ℕ) (x : Domain) → slice_get t.flat.domains d ≡ Some x
      → slice_get (uses_at t d) n ≡ Some (OwnLock leaf m) → IsLockCap t spec leaf m (use_cap t d n (OwnLock leaf m))
  lock_is d n leaf m x h e =
      let number = lock_number t (uses_are t can.slots) d n leaf m x h e in
      let p = part series.Lock number (OfDomain d) (LockOf d n) in
      let there = lock_part t (uses_are t can.slots) d n leaf m x h e in
      record {
        number = number;
        numbered = lock_numbered t (uses_are t can.slots) d n leaf m x h e;
        named = (objects_stand t).name p there;
        is = (objects_stand t).object p there;
        rights = refl;
        badge = refl;
      }

  -- ---- all

  pub cap_is : (d n : ℕ) (x : Domain) (u : SlotUse) → slice_get t.flat.domains d ≡ Some x → slice_get (uses_at t d) n ≡ Some u
      → IsCapOf t spec u (use_cap t d n u)
  cap_is d n x u h e = by_use u e (is_use t can.slots d x h n u e) where
    by_use : (u : SlotUse) → slice_get (uses_at t d) n ≡ Some u → IsUse t.flat.connections u
        → IsCapOf t spec u (use_cap t d n u)
    by_use (OfEnd k m) e o = end_is d n k m o
    by_use (Handler k m) e o = record { irq = irq_is k o.0 o.1 o.2; rights = refl; badge = refl }
    by_use (OwnLock leaf m) e o = lock_is d n leaf m x h e

  -- the CNode of a domain
  pub cnode_object : (d : ℕ) (x : Domain) → slice_get t.flat.domains d ≡ Some x
      → object_at spec d ≡ Some (CNode (bits_for (length (uses_at t d))) (slots_at t d))
  cnode_object d x h =
      let p = part series.CNode d (OfDomain d) (CNodeOf d) in
      let at : place t (CNodeOf d) ≡ d = omega arith in
      ap (λ z. object_at spec z) (sym at) ∙ (objects_stand t).object p ((parts_are_there t).cnode d x h)

  pub cnode_is : (d : ℕ) (x : Domain) → slice_get t.flat.domains d ≡ Some x → IsCNodeOf t spec d (uses_at t d)
  cnode_is d x h =
      let p = part series.CNode d (OfDomain d) (CNodeOf d) in
      let at : place t (CNodeOf d) ≡ d = omega arith in
      let f : ℕ → SlotUse → ℕ × Cap = λ n u. (n + 1, use_cap t d n u) in
      let F : ℕ → SlotUse → List (ℕ × Cap) = λ n u. f n u ∷ [] in
      let few = subst (λ (z : List SlotUse). length z < 2 ^ 16) (sym (uses_are t can.slots d x h)) (can.few d x h) in
      record {
        bits = bits_for (length (uses_at t d));
        slots = slots_at t d;
        is = cnode_object d x h;
        named = ap (λ z. name_at spec z) (sym at) ∙ (objects_stand t).name p ((parts_are_there t).cnode d x h);
        least = least (length (uses_at t d)) few;
        as_many = gather_ones f (uses_at t d);
        only = λ slot i. (
            let a = from_gather F slot (uses_at t d) i in
            elim a.3 [
              | inl e ↦ search (rules, cap_is)
              | inr n ↦ absurd n
            ]);
        every = λ n u e. (use_cap t d n u, in_gather F (f n u) (uses_at t d) n u e (inl refl));
      }

pub slotted : (t : Tables) → CanSlot t → (d : ℕ) (x : Domain) → slice_get t.flat.domains d ≡ Some x
    → IsCNodeOf t (spec_of t) d (domain_uses t.source t.flat x.leaves)
slotted t can d x h = subst (λ (us : List SlotUse). IsCNodeOf t (spec_of t) d us) (uses_are t can.slots d x h)
    (cnode_is t can d x h)
