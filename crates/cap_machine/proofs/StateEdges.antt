-- The edges of a state are those that its parts are the sources of.
use Rattle.cap_machine.proofs.Common.{Adds, Auth, Authority, Cap, Capability, Contains, Content, Edge, Entry, Has, List, Node, None, Object, OfCap, OfContent, OfFixed, OfNodes, OfSpecParts, OfState, OfThread, OfThreads, Option, Pages, SavedReply}
use Rattle.cap_machine.proofs.Common.{Some, Spec, State, Thread, ThreadState, [], arith, at_contains, buffer_of, contains_at, edge, entry_object, get_or, get_or_from_slice_get, has, inl, inr, irq_at, label_of, no_node, no_thread, node_at, of_buffer}
use Rattle.cap_machine.proofs.Common.{of_irq, of_mapped, of_reply, of_root, of_saved, of_space, of_table, refl, rules, slice_get, subst, suc, sym, table_of, thread_at, zero, ℕ, ◌↔◌, ◌∙◌, ◌∷◌, ◌≡◌, ◌⊎◌}

-- what is read at a place stands there, or is what is read past the end
read_at : {A : Type 0} (xs : List A) (k : ℕ) (d : A) → ((x : A) × (slice_get xs k ≡ Some x) × (get_or xs k d ≡ x))
    ⊎ (get_or xs k d ≡ d)
read_at [] k d = inr refl
read_at (x ∷ xs) zero d = inl (x, refl, refl)
read_at (x ∷ xs) (suc k) d = read_at xs k d

module _ (spec : Spec) (labels : List ℕ) (s : State) where
  node_source : (c i : ℕ) (content : Content) (e : Edge) → Contains (node_at s c).slots (i, content)
      → OfContent spec labels (label_of labels c) content e → OfNodes spec labels s.nodes e
  node_source c i content e there of = elim (read_at s.nodes c no_node) [
    | inl found ↦
        let here : Contains found.0.slots (i, content) = subst (λ (n : Node). Contains n.slots (i, content)) found.2 there in
        let k = contains_at found.0.slots (i, content) here in
        record {
          place = c;
          item = found.0;
          there = found.1;
          by = record { place = k.0; item = (i, content); there = k.1; by = of };
        }
    | inr none ↦ absurd (let w : Contains no_node.slots (i, content) = subst (λ (n : Node). Contains n.slots (i, content)) none
        there in let v = w.1 in omega arith)
  ]

  thread_source : (t : ℕ) (e : Edge) → OfThread labels (label_of labels t) (thread_at s t) e → OfThreads labels s.threads e
  thread_source t e of = search (rules, read_at)

  buffer_source : (from : ℕ) (object : Object) (x : Cap) (e : Edge) → buffer_of (Some object) ≡ Some x
      → OfCap spec labels from x e → OfFixed spec labels from object e
  buffer_source from (Thread tcb) x e there of_cap = record { some = x; there = there; by = of_cap }
  buffer_source from _ x e there of_cap = absurd cc

  table_source : (from : ℕ) (object : Object) (i : ℕ) (x : Cap) (e : Edge) → Contains (table_of (Some object)) (i, x)
      → OfCap spec labels from x e → OfFixed spec labels from object e
  table_source from (Pages level slots) i x e c of_cap = let k = contains_at slots (i, x) c in
      record { place = k.0; item = (i, x); there = k.1; by = of_cap }
  table_source from _ i x e c of_cap = absurd (let w = c.1 in omega arith)

  buffer_place : (t : ℕ) (o : Option Entry) (x : Cap) (e : Edge) → slice_get spec.entries t ≡ o
      → buffer_of (entry_object o) ≡ Some x → OfCap spec labels (label_of labels t) x e → OfSpecParts spec labels e
  buffer_place t None x e here there of_cap = absurd cc
  buffer_place t (Some entry) x e here there of_cap = search (rules, buffer_source)

  table_place : (t : ℕ) (o : Option Entry) (i : ℕ) (x : Cap) (e : Edge) → slice_get spec.entries t ≡ o
      → Contains (table_of (entry_object o)) (i, x) → OfCap spec labels (label_of labels t) x e → OfSpecParts spec labels e
  table_place t None i x e here c of_cap = absurd (let w = c.1 in omega arith)
  table_place t (Some entry) i x e here c of_cap = search (rules, table_source)

  state_source : (l : ℕ) (a : Authority) (m : ℕ) → Auth spec labels s l a m → OfState spec labels s (edge l a m)
  state_source l a m (inl (c, i, x, there, conf, from, to)) =
      inl (node_source c i (Capability x) (edge l a m) there (record { from_is = from; conferred = conf; to_is = to }))
  state_source l a m (inr (of_saved (c, i, reply, there, is, from, to))) =
      inl (node_source c i (SavedReply reply) (edge l a m) there (record { from_is = from; authority_is = is; to_is = to }))
  state_source l a m (inr (of_root (t, d, there, is, from, to))) =
      inr
      (inl
      (thread_source t (edge l a m)
      (inl (record { some = d; there = there; by = record { from_is = from; authority_is = is; to_is = to } }))))
  state_source l a m (inr (of_space (t, d, there, is, from, to))) =
      inr
      (inl
      (thread_source t (edge l a m)
      (inr (inl (record { some = d; there = there; by = record { from_is = from; authority_is = is; to_is = to } })))))
  state_source l a m (inr (of_reply (t, reply, there, is, from, to))) =
      inr
      (inl
      (thread_source t (edge l a m)
      (inr (inr (record { some = reply; there = there; by = record { from_is = from; authority_is = is; to_is = to } })))))
  state_source l a m (inr (of_irq (d, n, there, is, from, to))) = search (rules, read_at)
  state_source l a m (inr (of_mapped (x, there, conf, from, to))) = let k = contains_at s.mapped x there in search (rules)
  state_source l a m (inr (of_buffer (t, x, there, conf, from, to))) = search (rules, buffer_place, slice_get)
  state_source l a m (inr (of_table (p, i, x, there, conf, from, to))) =
      inr
      (inr
      (inr
      (inr (table_place p (slice_get spec.entries p) i x (edge l a m) refl there (search (rules))))))

  -- and back

  content_auth : (c i : ℕ) (content : Content) (l : ℕ) (a : Authority) (m : ℕ) → Contains (node_at s c).slots (i, content)
      → OfContent spec labels (label_of labels c) content (edge l a m) → Auth spec labels s l a m
  content_auth c i (Capability x) l a m there of = inl (c, i, x, there, of.conferred, of.from_is, of.to_is)
  content_auth c i (SavedReply reply) l a m there of = inr (of_saved (c, i, reply, there, of.authority_is, of.from_is, of.to_is))

  fixed_auth : (o : ℕ) (entry : Entry) (object : Object) (l : ℕ) (a : Authority) (m : ℕ) → slice_get spec.entries o ≡ Some entry
      → entry.object ≡ object → OfFixed spec labels (label_of labels o) object (edge l a m) → Auth spec labels s l a m
  fixed_auth o entry (Thread tcb) l a m here is h =
      inr (of_buffer (o, h.some, rw (here, is) h.there, h.by.conferred, h.by.from_is, h.by.to_is))
  fixed_auth o entry (Pages level slots) l a m here is of =
      inr (of_table (
        o,
        of.item.0,
        of.item.1,
        rw (here, is) (at_contains slots of.item of.place of.there),
        of.by.conferred,
        of.by.from_is,
        of.by.to_is,
      ))
  fixed_auth o entry _ l a m here is h = absurd h

  thread_auth : (t : ℕ) (l : ℕ) (a : Authority) (m : ℕ) → OfThread labels (label_of labels t) (thread_at s t) (edge l a m)
      → Auth spec labels s l a m
  thread_auth t l a m (inl h) = inr (of_root (t, h.some, h.there, h.by.authority_is, h.by.from_is, h.by.to_is))
  thread_auth t l a m (inr (inl h)) = inr (of_space (t, h.some, h.there, h.by.authority_is, h.by.from_is, h.by.to_is))
  thread_auth t l a m (inr (inr h)) = inr (of_reply (t, h.some, h.there, h.by.authority_is, h.by.from_is, h.by.to_is))

  source_auth : (l : ℕ) (a : Authority) (m : ℕ) → OfState spec labels s (edge l a m) → Auth spec labels s l a m
  source_auth l a m (inl h) =
      content_auth h.place h.by.item.0 h.by.item.1 l a m (rw (get_or_from_slice_get s.nodes h.place h.item no_node h.there)
      (at_contains h.item.slots h.by.item h.by.place h.by.there)) h.by.by
  source_auth l a m (inr (inl h)) =
      thread_auth h.place l a m (subst (λ (x : ThreadState). OfThread labels (label_of labels h.place) x (edge l a m))
      (sym (get_or_from_slice_get s.threads h.place h.item no_thread h.there)) h.by)
  source_auth l a m (inr (inr (inl h))) =
      let bound : irq_at s h.place ≡ h.item = get_or_from_slice_get s.irqs h.place h.item None h.there in
      inr (of_irq (h.place, h.by.some, bound ∙ h.by.there, h.by.by.authority_is, h.by.by.from_is, h.by.by.to_is))
  source_auth l a m (inr (inr (inr (inl h)))) =
      inr (of_mapped (h.item, at_contains s.mapped h.item h.place h.there, h.by.conferred, h.by.from_is, h.by.to_is))
  source_auth l a m (inr (inr (inr (inr h)))) = fixed_auth h.place h.item h.item.object l a m h.there refl h.by

  -- a table of the edges that were gathered from the state
  pub state_edges : (edges table : List Edge) → Adds (OfState spec labels s) [] edges → ((e : Edge) → has table e ≡ has edges e)
      → (l : ℕ) (a : Authority) (m : ℕ) → (Has table l a m) ↔ Auth spec labels s l a m
  state_edges edges table grown same l a m = (
    λ h. elim (grown.only (edge l a m) (sym (same (edge l a m)) ∙ h)) [ inl none ↦ absurd cc | inr of ↦ source_auth l a m of ],
    λ h. same (edge l a m) ∙ grown.added (edge l a m) (state_source l a m h),
  )
