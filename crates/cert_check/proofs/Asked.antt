-- The edges that the first rule asks for are those of the objects.
use Rattle.cert_check.proofs.Common.{Asked, Authority, CNode, Cap, Capability, Contains, Edge, Endpoint, Entry, Held, Irq, Node, Notification, OfBound, OfCap, OfLink, Pages, Spec, Structural, Thread, ThreadState, arith, at_contains, at_entry, boot}
use Rattle.cert_check.proofs.Common.{boot_contains, boot_irq, boot_node, boot_slot, boot_thread, buffer_of, contains_at, edge, entry_at, inl, inr, irq_at, label_of, map, no_node, no_thread, node_at, none_saved, nothing_pending, of_buffer, of_irq}
use Rattle.cert_check.proofs.Common.{of_mapped, of_reply, of_root, of_saved, of_space, of_table, rules, slot_of, subst, table_of, thread_at}
use Rattle.std.specs.Prelude.{◌≡◌, ◌≢◌, ◌⊎◌, ℕ, List, slice_get, Option, Some, None, refl}
use Rattle.cap_model.specs.declared.object.Object.{Object}
use Rattle.cap_model.specs.declared.object.Object.TheVariants.{Frame}
use Rattle.cap_model.specs.Lookup.{entry_object}

-- an edge that is asked for because of some object
pub record AskedSome (spec : Spec) (labels : List ℕ) (e : Edge) : Type 0 where
  pub place : ℕ
  pub entry : Entry
  pub there : slice_get spec.entries place ≡ Some entry
  pub asked : Asked spec labels (label_of labels place) entry.object e

module _ (spec : Spec) (labels : List ℕ) where
  -- from the boot state to the objects

  held_object : (l : ℕ) (object : Object) (i : ℕ) (x : Cap) (e : Edge) → Contains (boot_node object).slots (i, Capability x)
      → OfCap spec labels l x e → Asked spec labels l object e
  held_object l (CNode bits slots) i x e there of_cap =
      let k = contains_at (map boot_slot slots) (i, Capability x) there in
      let s = slot_of slots k.0 i (Capability x) k.1 in
      let here : Capability s.0.1 ≡ Capability x = s.2 in
      let same : x ≡ s.0.1 = cc in
      record { place = k.0; slot = s.0; there = s.1; of_cap = subst (λ (y : Cap). OfCap spec labels l y e) same of_cap }
  held_object l _ i x e there of_cap = absurd (let w = there.1 in omega arith)

  pub held_asked : (e : Edge) → Held spec labels (boot spec) e.from e.authority e.to → AskedSome spec labels e
  held_asked e (c, i, x, there, conf, from, to) =
      elim (at_entry boot_node spec.entries c no_node) [
        | inl found ↦ record {
          place = c;
          entry = found.0;
          there = found.1;
          asked = held_object (label_of labels c) found.0.object i x e (subst (λ (n : Node). Contains n.slots (i, Capability x))
              found.2 there) (record { confers = conf; from = from; to = to });
        }
        | inr none ↦ search (rules)
      ]

  buffer_object : (l : ℕ) (object : Object) (cap : Cap) (e : Edge) → buffer_of (Some object) ≡ Some cap
      → OfCap spec labels l cap e → e.from ≢ e.to → Asked spec labels l object e
  buffer_object l (Thread tcb) cap e there of_cap differ =
      (inr (inr (record { cap = cap; there = there; of_cap = of_cap })), differ)
  buffer_object l _ cap e there of_cap differ = absurd cc

  table_object : (l : ℕ) (object : Object) (slot : ℕ × Cap) (e : Edge) → Contains (table_of (Some object)) slot
      → OfCap spec labels l slot.1 e → e.from ≢ e.to → Asked spec labels l object e
  table_object l (Pages level slots) slot e c of_cap differ =
      let k : (k : ℕ) × (slice_get slots k ≡ Some slot) = contains_at slots slot c in
      (record { place = k.0; slot = slot; there = k.1; of_cap = of_cap }, differ)
  table_object l _ slot e c of_cap differ = let w = c.1 in absurd (omega arith)

  root_object : (l : ℕ) (object : Object) (e : Edge) → OfLink labels l (boot_thread object).root e → e.from ≢ e.to
      → Asked spec labels l object e
  root_object l (Thread tcb) e link differ = (inl link, differ)
  root_object l _ e link differ = absurd (let w = link.there in cc)

  space_object : (l : ℕ) (object : Object) (e : Edge) → OfLink labels l (boot_thread object).space e → e.from ≢ e.to
      → Asked spec labels l object e
  space_object l (Thread tcb) e link differ = (inr (inl link), differ)
  space_object l _ e link differ = absurd (let w = link.there in cc)

  irq_object : (l : ℕ) (object : Object) (e : Edge) → OfBound labels l (boot_irq object) e → e.from ≢ e.to
      → Asked spec labels l object e
  irq_object l (Irq bound) e link differ = (link, differ)
  irq_object l _ e link differ = absurd (let w = link.there in cc)

  buffer_place : (t : ℕ) (o : Option Entry) (cap : Cap) (e : Edge) → slice_get spec.entries t ≡ o
      → buffer_of (entry_object o) ≡ Some cap → OfCap spec labels (label_of labels t) cap e → e.from ≢ e.to
      → AskedSome spec labels e
  buffer_place t None cap e here there of_cap differ = absurd cc
  buffer_place t (Some entry) cap e here there of_cap differ = search (rules, buffer_object)

  table_place : (t : ℕ) (o : Option Entry) (slot : ℕ × Cap) (e : Edge) → slice_get spec.entries t ≡ o
      → Contains (table_of (entry_object o)) slot → OfCap spec labels (label_of labels t) slot.1 e → e.from ≢ e.to
      → AskedSome spec labels e
  table_place t None slot e here c of_cap differ = let w = c.1 in absurd (omega arith)
  table_place t (Some entry) slot e here c of_cap differ = search (rules, table_object)

  pub structural_asked : (e : Edge) (l : ℕ) (a : Authority) (m : ℕ) → e ≡ edge l a m → Structural spec labels (boot spec) l a m
      → e.from ≢ e.to → AskedSome spec labels e
  structural_asked e l a m is (of_buffer h) differ =
      buffer_place h.0 (slice_get spec.entries h.0) h.1 e refl h.2 (rw is (record { confers = h.3; from = h.4; to = h.5 })) differ
  structural_asked e l a m is (of_table h) differ =
      table_place h.0 (slice_get spec.entries h.0) (h.1, h.2) e refl h.3 (rw is (record { confers = h.4; from = h.5; to = h.6 }))
      differ
  structural_asked e l a m is (of_root h) differ =
      elim (at_entry boot_thread spec.entries h.0 no_thread) [
        | inl found ↦ search (rules, root_object)
        | inr none ↦ absurd (let n = subst (λ (n : ThreadState). n.root ≡ Some h.1) none h.2 in cc)
      ]
  structural_asked e l a m is (of_space h) differ =
      elim (at_entry boot_thread spec.entries h.0 no_thread) [
        | inl found ↦ search (rules, space_object)
        | inr none ↦ absurd (let n = subst (λ (n : ThreadState). n.space ≡ Some h.1) none h.2 in cc)
      ]
  structural_asked e l a m is (of_reply h) differ = absurd (let n = nothing_pending spec h.0 in let w = h.2 in cc)
  structural_asked e l a m is (of_saved h) differ = absurd (none_saved spec h.0 h.1 h.2 h.3)
  structural_asked e l a m is (of_mapped h) differ = absurd (let w = h.1.1 in omega arith)
  structural_asked e l a m is (of_irq h) differ =
      elim (at_entry boot_irq spec.entries h.0 None) [
        | inl found ↦ search (rules, irq_object)
        | inr none ↦ absurd (let n = subst (λ (n : Option ℕ). n ≡ Some h.1) none h.2 in cc)
      ]

  -- and back

  abbrev pub At : Edge → Type 0
  At e = Held spec labels (boot spec) e.from e.authority e.to ⊎ (Structural spec labels (boot spec) e.from e.authority e.to
      × (e.from ≢ e.to))

  pub asked_at : (o : ℕ) (entry : Entry) (object : Object) (e : Edge) → slice_get spec.entries o ≡ Some entry
      → entry.object ≡ object → Asked spec labels (label_of labels o) object e → At e
  asked_at o entry (CNode bits slots) e here is asked =
      let node : node_at (boot spec) o ≡ boot_node entry.object = entry_at boot_node spec.entries o no_node entry here in
      search (rules, boot_contains)
  asked_at o entry (Pages level slots) e here is asked =
      inr (
        of_table (
          o,
          asked.0.slot.0,
          asked.0.slot.1,
          rw (here, is) (at_contains slots asked.0.slot asked.0.place
              asked.0.there),
          asked.0.of_cap.confers,
          asked.0.of_cap.from,
          asked.0.of_cap.to,
        ),
        asked.1,
      )
  asked_at o entry (Thread tcb) e here is (inl h, differ) =
      let live : thread_at (boot spec) o ≡ boot_thread entry.object = entry_at boot_thread spec.entries o no_thread entry here in
      inr (of_root (o, h.object, rw (live, is) h.there, h.control, h.from, h.to), differ)
  asked_at o entry (Thread tcb) e here is (inr (inl h), differ) =
      let live : thread_at (boot spec) o ≡ boot_thread entry.object = entry_at boot_thread spec.entries o no_thread entry here in
      inr (of_space (o, h.object, rw (live, is) h.there, h.control, h.from, h.to), differ)
  asked_at o entry (Thread tcb) e here is (inr (inr h), differ) =
      inr (of_buffer (o, h.cap, rw (here, is) h.there, h.of_cap.confers, h.of_cap.from, h.of_cap.to), differ)
  asked_at o entry (Irq bound) e here is (h, differ) =
      let at : irq_at (boot spec) o ≡ boot_irq entry.object = entry_at boot_irq spec.entries o None entry here in
      inr (of_irq (o, h.object, rw (at, is) h.there, h.sends, h.from, h.to), differ)
  asked_at o entry Endpoint e here is asked = absurd asked
  asked_at o entry Notification e here is asked = absurd asked
  asked_at o entry (Frame paddr fill) e here is asked = absurd asked
