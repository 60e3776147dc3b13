-- No two uses have one lock
use Rattle.spec_laws.proofs.Common.{CNodeOf, CanSlot, Cap, Connector, Domain, Each, FlatConnection, Handler, Interrupt, IrqOf, IsIn, IsJoint, IsNamed, List, LockOf, None, Object, OfDomain, OfEnd, Option, OwnLock, OwnLocks, Owned, Part, Rpc}
use Rattle.spec_laws.proofs.Common.{SlotUse, Some, Spec, Tables, [], ap, arith, before, domain_locks, from_gather, from_get_map, in_gather, in_together, inl, interrupt, irq_owner, lock, locks, map}
use Rattle.spec_laws.proofs.Common.{name_at, name_of, numbered, object, object_at, objects_stand, owned, part, parts, place, place_of, refl, sections, single, slice_get, slots_at, spec_of, stands, subst, suc, sym, use_cap}
use Rattle.spec_laws.proofs.Common.{rules, uses_at, zero, ℕ, ◌+◌, ◌∙◌, ◌∷◌, ◌≡◌}
use Rattle.adl_meaning.specs.declared.connector.Connector.TheVariants.{Notification as Notifies}
use Rattle.cap_model.specs.declared.object.Object.TheVariants as objects
use Rattle.system_spec.specs.declared.series.Series.TheVariants as series
use Rattle.spec_laws.proofs.SlotLists.{some}
use Rattle.spec_laws.proofs.Numbering.{irq_part}
use Rattle.spec_laws.proofs.Whose.{object_stands, of_node}
use Rattle.spec_laws.proofs.Slotting.{cap_is}
use Rattle.spec_laws.proofs.Uses.{is_use}

pub each_map : {X Y : Type 0} (P : Y → Type 0) (f : X → Y) (xs : List X) → ((x : X) → P (f x)) → Each P (map f xs)
each_map P f [] h = tt
each_map P f (x ∷ xs) h = (h x, each_map P f xs h)

pub part_there : (t : Tables) (m : ℕ) (o : Object) → object_at (spec_of t) m ≡ Some o
    → (p : Part) × (slice_get (parts t) m ≡ Some p) × (object t p.what ≡ o)
part_there t m o h = search (rules, from_get_map)

none_map : {X Y : Type 0} (f : X → Y) (xs : List X) (i : ℕ) → slice_get xs i ≡ None → slice_get (map f xs) i ≡ None
none_map f [] i e = refl
none_map f (x ∷ xs) zero e = cc
none_map f (x ∷ xs) (suc i) e = none_map f xs i e

lock_same : (d n e m : ℕ) → LockOf d n ≡ LockOf e m → (d ≡ e) × (n ≡ m)
lock_same d n e m h = (cc, cc)

-- ---- names of series

abbrev first : List ℕ → ℕ
first [] = 0
first (b ∷ bs) = b

no_ep : (k r : ℕ) → name_of series.Ep k ≡ name_of series.Lock r → ⊥
no_ep k r e = let h : 101 ≡ 108 = ap first e in absurd (omega (arith, h))

no_ntfn : (k r : ℕ) → name_of series.Ntfn k ≡ name_of series.Lock r → ⊥
no_ntfn k r e = let h : 110 ≡ 108 = ap first e in absurd (omega (arith, h))

no_irq : (k r : ℕ) → name_of series.Irq k ≡ name_of series.Lock r → ⊥
no_irq k r e = let h : 105 ≡ 108 = ap first e in absurd (omega (arith, h))

no_joint : (spec : Spec) (at k r : ℕ) (c : Connector) → IsJoint spec at c k → IsNamed spec at series.Lock r → ⊥
no_joint spec at k r Rpc j n = no_ep k r (sym j ∙ n)
no_joint spec at k r Notifies j n = no_ntfn k r (sym j ∙ n)
no_joint spec at k r Interrupt j n = no_ntfn k r (sym j ∙ n)
no_joint spec at k r _ j n = j

module _ (t : Tables) (can : CanSlot t) where
  abbrev spec : Spec
  spec = spec_of t

  -- a slot that leads to a lock
  pub record IsLockSlot (d m : ℕ) (a : Cap) : Type 0 where
    pub number : ℕ
    pub slot : m ≡ number + 1
    pub named : ℕ
    pub there : IsIn (part series.Lock named (OfDomain d) (LockOf d number)) (parts t)
    pub leads : a.object ≡ place t (LockOf d number)

  abbrev slots_of_cnode : Object → List (ℕ × Cap)
  slots_of_cnode (objects.CNode bits slots) = slots
  slots_of_cnode _ = []

  lock_there : (d n leaf l : ℕ) (x : Domain) → slice_get t.flat.domains d ≡ Some x
      → slice_get (uses_at t d) n ≡ Some (OwnLock leaf l)
      → (j : ℕ) × IsIn (part series.Lock j (OfDomain d) (LockOf d n)) (parts t)
  lock_there d n leaf l x h e =
      let y = owned (OfDomain d) (LockOf d n) in
      let i = in_gather (lock d) y (uses_at t d) n (OwnLock leaf l) e (inl refl) in
      let j = place_of y (locks t) (in_gather (domain_locks t) y t.flat.domains d x h i) in
      let f : ℕ → Owned → List Part = λ n z. part series.Lock n z.owner z.what ∷ [] in
      let p = part series.Lock j.0 (OfDomain d) (LockOf d n) in
      (j.0, in_together (sections t) 4 (numbered series.Lock (locks t)) p refl (in_gather f p (locks t) j.0 y j.1 (inl refl)))

  -- a handler is of an interrupt, and leads to it
  record IsHandled (d n k l : ℕ) : Type 0 where
    connection : FlatConnection
    here : slice_get t.flat.connections k ≡ Some connection
    is_interrupt : connection.connector ≡ Interrupt
    leads : (use_cap t d n (Handler k l)).object ≡ place t (IrqOf k)

  handled : (d n k l : ℕ) (x : Domain) → slice_get t.flat.domains d ≡ Some x → slice_get (uses_at t d) n ≡ Some (Handler k l)
      → IsHandled d n k l
  handled d n k l x h e =
      let u = is_use t can.slots d x h n (Handler k l) e in
      record { connection = u.0; here = u.1; is_interrupt = u.2; leads = refl }

  of_use : (d n r : ℕ) (x : Domain) (u : SlotUse) → slice_get t.flat.domains d ≡ Some x → slice_get (uses_at t d) n ≡ Some u
      → IsNamed spec (use_cap t d n u).object series.Lock r → IsLockSlot d (n + 1) (use_cap t d n u)
  of_use d n r x (OfEnd k l) h e name = let c = cap_is t can d n x (OfEnd k l) h e in
      absurd (no_joint spec (use_cap t d n (OfEnd k l)).object k r c.connection.connector c.joint name)
  of_use d n r x (Handler k l) h e name =
      let c = handled d n k l x h e in let n = before interrupt t.flat.connections k in
      let j = irq_part t k c.connection c.here c.is_interrupt in
      absurd (no_irq n r (sym ((objects_stand t).name (part series.Irq n (irq_owner k c.connection) (IrqOf k)) j)
      ∙ ap (λ z. name_at spec z) (sym c.leads) ∙ name))
  of_use d n r x (OwnLock leaf l) h e name = search (rules, lock_there)

  no_uses : (d : ℕ) → slice_get t.flat.domains d ≡ None → uses_at t d ≡ []
  no_uses d h = search (rules, none_map)

  in_domain : (d m r : ℕ) (a : Cap) (q : Option Domain) → slice_get t.flat.domains d ≡ q → IsIn (m, a) (slots_at t d)
      → IsNamed spec a.object series.Lock r → IsLockSlot d m a
  in_domain d m r a None h j name = search (rules, no_uses)
  in_domain d m r a (Some x) h j name =
      let f : ℕ → SlotUse → List (ℕ × Cap) = λ n u. (n + 1, use_cap t d n u) ∷ [] in
      let b = from_gather f (m, a) (uses_at t d) j in
      let mine : ℕ × Cap = (b.0 + 1, use_cap t d b.0 b.1) in
      let eq : mine ≡ (m, a) = single mine (m, a) b.3 in
      let cap : use_cap t d b.0 b.1 ≡ a = ap (λ (z : ℕ × Cap). z.1) eq in
      let slot : b.0 + 1 ≡ m = ap (λ (z : ℕ × Cap). z.0) eq in
      let k = of_use d b.0 r x b.1 h b.2 (ap (λ (z : Cap). name_at spec z.object) cap ∙ name) in
      search (rules)

  pub slot_is : (d m r bits : ℕ) (slots : List (ℕ × Cap)) (a : Cap) → object_at spec d ≡ Some (objects.CNode bits slots)
      → IsIn (m, a) slots → IsNamed spec a.object series.Lock r → IsLockSlot d m a
  slot_is d m r bits slots a o i name =
      let p = object_stands t d (objects.CNode bits slots) o in let w = of_node p.what p.sort in
      let at : place t (CNodeOf w.0) ≡ d = subst (λ z. place t z ≡ d) w.1 p.stands in
      let same : w.0 ≡ d = omega (arith, at) in
      let filled : slots_at t d ≡ slots = search (rules) in
      in_domain d m r a (slice_get t.flat.domains d) refl (subst (λ z. IsIn (m, a) z) (sym filled) i) name

  own : OwnLocks spec
  own d m n e a b bits more slots others r s o q i j u v eq =
      let x = slot_is d m r bits slots a o i u in let y = slot_is e n s more others b q j v in
      let p = part series.Lock x.named (OfDomain d) (LockOf d x.number) in
      let w = part series.Lock y.named (OfDomain e) (LockOf e y.number) in
      let parts_same : p ≡ w = search (rules, some, stands) in
      let what : LockOf d x.number ≡ LockOf e y.number = ap (λ (z : Part). z.what) parts_same in
      ((lock_same d x.number e y.number what).0, x.slot ∙ ap (λ z. z + 1) ((lock_same d x.number e y.number what).1) ∙ sym y.slot)

pub own_locks : (t : Tables) → CanSlot t → OwnLocks (spec_of t)
own_locks t can = own t can
