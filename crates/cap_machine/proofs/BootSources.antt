-- The edges of the boot state are those that the objects are the sources of.
use Rattle.cap_machine.proofs.Common.{Adds, AsyncSend, Auth, Authority, CNode, Cap, Capability, Contains, Control, Edge, Endpoint, Entry, Frame, Has, Irq, List, Node, None, Notification, Object, OfCap, OfLink, OfObject, OfOption, OfSpec, Option}
use Rattle.cap_machine.proofs.Common.{Pages, Some, Spec, Thread, ThreadState, [], arith, at_contains, at_entry, boot, boot_irq, boot_node, boot_slot, boot_thread, buffer_of, contains_at, edge, entry_at, entry_object, inl, inr, irq_at, label_of, map}
use Rattle.cap_machine.proofs.Common.{no_node, no_thread, node_at, none_saved, nothing_pending, of_buffer, of_irq, of_mapped, of_reply, of_root, of_saved, of_space, of_table, refl, slice_get, slot_of, subst, table_of, thread_at, ℕ}
use Rattle.cap_machine.proofs.Common.{rules, ◌↔◌, ◌≡◌}
use Rattle.cap_model.proofs.BootPlaces.{boot_contains}

module _ (spec : Spec) (labels : List ℕ) where
  -- from the boot state to the objects

  held_object : (from : ℕ) (object : Object) (i : ℕ) (x : Cap) (e : Edge) → Contains (boot_node object).slots (i, Capability x)
      → OfCap spec labels from x e → OfObject spec labels from object e
  held_object from (CNode bits slots) i x e there of_cap =
      let k = contains_at (map boot_slot slots) (i, Capability x) there in
      let s = slot_of slots k.0 i (Capability x) k.1 in
      let here : Capability s.0.1 ≡ Capability x = s.2 in
      let same : x ≡ s.0.1 = cc in
      record { place = k.0; item = s.0; there = s.1; by = subst (λ (y : Cap). OfCap spec labels from y e) same of_cap }
  held_object from _ i x e there of_cap = absurd (let w = there.1 in omega arith)

  buffer_object : (from : ℕ) (object : Object) (x : Cap) (e : Edge) → buffer_of (Some object) ≡ Some x
      → OfCap spec labels from x e → OfObject spec labels from object e
  buffer_object from (Thread tcb) x e there of_cap = inr (inr (record { some = x; there = there; by = of_cap }))
  buffer_object from _ x e there of_cap = absurd cc

  table_object : (from : ℕ) (object : Object) (i : ℕ) (x : Cap) (e : Edge) → Contains (table_of (Some object)) (i, x)
      → OfCap spec labels from x e → OfObject spec labels from object e
  table_object from (Pages level slots) i x e c of_cap = let k = contains_at slots (i, x) c in
      record { place = k.0; item = (i, x); there = k.1; by = of_cap }
  table_object from _ i x e c of_cap = absurd (let w = c.1 in omega arith)

  root_object : (from : ℕ) (object : Object) (e : Edge) → OfOption (OfLink labels from Control) (boot_thread object).root e
      → OfObject spec labels from object e
  root_object from (Thread tcb) e link = inl link
  root_object from _ e link = absurd (let w = link.there in cc)

  space_object : (from : ℕ) (object : Object) (e : Edge) → OfOption (OfLink labels from Control) (boot_thread object).space e
      → OfObject spec labels from object e
  space_object from (Thread tcb) e link = inr (inl link)
  space_object from _ e link = absurd (let w = link.there in cc)

  irq_object : (from : ℕ) (object : Object) (e : Edge) → OfOption (OfLink labels from AsyncSend) (boot_irq object) e
      → OfObject spec labels from object e
  irq_object from (Irq bound) e link = link
  irq_object from _ e link = absurd (let w = link.there in cc)

  buffer_place : (t : ℕ) (o : Option Entry) (x : Cap) (e : Edge) → slice_get spec.entries t ≡ o
      → buffer_of (entry_object o) ≡ Some x → OfCap spec labels (label_of labels t) x e → OfSpec spec labels e
  buffer_place t None x e here there of_cap = absurd cc
  buffer_place t (Some entry) x e here there of_cap = search (rules, buffer_object)

  table_place : (t : ℕ) (o : Option Entry) (i : ℕ) (x : Cap) (e : Edge) → slice_get spec.entries t ≡ o
      → Contains (table_of (entry_object o)) (i, x) → OfCap spec labels (label_of labels t) x e → OfSpec spec labels e
  table_place t None i x e here c of_cap = absurd (let w = c.1 in omega arith)
  table_place t (Some entry) i x e here c of_cap = search (rules, table_object)

  pub auth_source : (l : ℕ) (a : Authority) (m : ℕ) → Auth spec labels (boot spec) l a m → OfSpec spec labels (edge l a m)
  auth_source l a m (inl (c, i, x, there, conf, from, to)) =
      elim (at_entry boot_node spec.entries c no_node) [
        | inl found ↦ record {
          place = c;
          item = found.0;
          there = found.1;
          by = held_object (label_of labels c) found.0.object i x (edge l a m)
              (subst (λ (n : Node). Contains n.slots (i, Capability x)) found.2 there) (search (rules));
        }
        | inr none ↦ search (rules)
      ]
  auth_source l a m (inr (of_buffer (t, x, there, conf, from, to))) = search (rules, buffer_place, slice_get)
  auth_source l a m (inr (of_table (p, i, x, there, conf, from, to))) =
      table_place p (slice_get spec.entries p) i x (edge l a m) refl there (search (rules))
  auth_source l a m (inr (of_root (t, d, there, is, from, to))) =
      elim (at_entry boot_thread spec.entries t no_thread) [
        | inl found ↦ search (rules, root_object)
        | inr none ↦ absurd (let n = subst (λ (n : ThreadState). n.root ≡ Some d) none there in cc)
      ]
  auth_source l a m (inr (of_space (t, d, there, is, from, to))) =
      elim (at_entry boot_thread spec.entries t no_thread) [
        | inl found ↦ search (rules, space_object)
        | inr none ↦ absurd (let n = subst (λ (n : ThreadState). n.space ≡ Some d) none there in cc)
      ]
  auth_source l a m (inr (of_reply (t, reply, there, is, from, to))) = absurd (let none = nothing_pending spec t in cc)
  auth_source l a m (inr (of_saved (c, i, reply, there, is, from, to))) = absurd (none_saved spec c i reply there)
  auth_source l a m (inr (of_mapped (x, there, conf, from, to))) = absurd (let w = there.1 in omega arith)
  auth_source l a m (inr (of_irq (d, n, there, is, from, to))) =
      elim (at_entry boot_irq spec.entries d None) [
        | inl found ↦ search (rules, irq_object)
        | inr none ↦ absurd (let n = subst (λ (o : Option ℕ). o ≡ Some n) none there in cc)
      ]

  -- and back

  object_auth : (o : ℕ) (entry : Entry) (object : Object) (l : ℕ) (a : Authority) (m : ℕ) → slice_get spec.entries o ≡ Some entry
      → entry.object ≡ object → OfObject spec labels (label_of labels o) object (edge l a m) → Auth spec labels (boot spec) l a m
  object_auth o entry (CNode bits slots) l a m here is of =
      let node : node_at (boot spec) o ≡ boot_node entry.object = entry_at boot_node spec.entries o no_node entry here in
      search (rules, boot_contains)
  object_auth o entry (Pages level slots) l a m here is of =
      inr (of_table (
        o,
        of.item.0,
        of.item.1,
        rw (here, is) (at_contains slots of.item of.place of.there),
        of.by.conferred,
        of.by.from_is,
        of.by.to_is,
      ))
  object_auth o entry (Thread tcb) l a m here is (inl h) =
      let live : thread_at (boot spec) o ≡ boot_thread entry.object = entry_at boot_thread spec.entries o no_thread entry here in
      inr (of_root (o, h.some, rw (live, is) h.there, h.by.authority_is, h.by.from_is, h.by.to_is))
  object_auth o entry (Thread tcb) l a m here is (inr (inl h)) =
      let live : thread_at (boot spec) o ≡ boot_thread entry.object = entry_at boot_thread spec.entries o no_thread entry here in
      inr (of_space (o, h.some, rw (live, is) h.there, h.by.authority_is, h.by.from_is, h.by.to_is))
  object_auth o entry (Thread tcb) l a m here is (inr (inr h)) =
      inr (of_buffer (o, h.some, rw (here, is) h.there, h.by.conferred, h.by.from_is, h.by.to_is))
  object_auth o entry (Irq bound) l a m here is h =
      let at : irq_at (boot spec) o ≡ boot_irq entry.object = entry_at boot_irq spec.entries o None entry here in
      inr (of_irq (o, h.some, rw (at, is) h.there, h.by.authority_is, h.by.from_is, h.by.to_is))
  object_auth o entry Endpoint l a m here is h = absurd h
  object_auth o entry Notification l a m here is h = absurd h
  object_auth o entry (Frame paddr fill) l a m here is h = absurd h

  pub source_auth : (l : ℕ) (a : Authority) (m : ℕ) → OfSpec spec labels (edge l a m) → Auth spec labels (boot spec) l a m
  source_auth l a m h = object_auth h.place h.item h.item.object l a m h.there refl h.by

  -- the edges that were gathered from the spec
  pub boot_sources : (edges : List Edge) → Adds (OfSpec spec labels) [] edges → (l : ℕ) (a : Authority) (m : ℕ)
      → (Has edges l a m) ↔ Auth spec labels (boot spec) l a m
  boot_sources edges grown l a m = (
    λ h. elim (grown.only (edge l a m) h) [ inl none ↦ absurd cc | inr of ↦ source_auth l a m of ],
    λ h. grown.added (edge l a m) (auth_source l a m h),
  )
