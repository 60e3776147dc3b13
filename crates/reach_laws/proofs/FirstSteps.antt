-- One call, and one binding, from the boot state.
use Rattle.reach_laws.proofs.Common.{Acts, AsyncSend, Call, Capability, Endpoint, Entry, Handle, Held, Irq, Kind, List, None, Notification, Object, Option, Peer, Pending, Reaches, Receive, Reply, Rights, Some, Spec, State}
use Rattle.reach_laws.proofs.Common.{ThreadState, [], ap, boot, boot_irq, boot_thread, called, entry_at, entry_object, inl, inr, is_at, is_kind, kind_at, label_of, length, no_thread, number_found, object_at, of_irq, of_reply, option_confers}
use Rattle.reach_laws.proofs.Common.{refl, slice_get, slice_get_within, subst, sym, thread_at, true, with_pending, ℕ, ◌&&◌, ◌<◌, ◌||◌, ◌∙◌, ◌∷◌, ◌≡◌, ◌≢◌, ◌⊎◌}
use Rattle.std.specs.Prelude.{slice_set}
use Rattle.std.proofs.lemmas.List.{get_or-set_same, get_or-set_other, length-map}
use Rattle.cap_machine.specs.declared.step.Step.TheVariants as steps
use Rattle.cap_model.specs.declared.object.Object.TheVariants as objects
use Rattle.reach_laws.specs.Arranged.{Holds, IsArranged, RootOf}

module _ (spec : Spec) (labels : List ℕ) (laid : IsArranged spec labels) where
  entry_of_object : (o : ℕ) (object : Object) → object_at spec o ≡ Some object
      → (entry : Entry) × (slice_get spec.entries o ≡ Some entry) × (entry.object ≡ object)
  entry_of_object o object h = go (slice_get spec.entries o) refl where
    go : (e : Option Entry) → slice_get spec.entries o ≡ e → (entry : Entry) × (slice_get spec.entries o ≡ Some entry)
        × (entry.object ≡ object)
    go (Some entry) there = let w : entry_object (Some entry) ≡ Some object = subst (λ z. entry_object z ≡ Some object) there h in
        (entry, there, cc)
    go None there = absurd (let w : entry_object None ≡ Some object = subst (λ z. entry_object z ≡ Some object) there h in cc)

  -- the root's thread acts
  root_acts : (c : ℕ) (r : RootOf spec labels c) → Acts (boot spec) r.thread c
  root_acts c r =
      let e = entry_of_object r.thread (objects.Thread r.tcb) r.stands in
      let there : thread_at (boot spec) r.thread ≡ boot_thread (objects.Thread r.tcb) = entry_at boot_thread spec.entries r.thread
      no_thread e.0 e.1 ∙ ap boot_thread e.2 in
      record { runs = ap (λ (x : ThreadState). x.waits) there; root = ap (λ (x : ThreadState). x.root) there ∙ r.root }

  thread_in : (c : ℕ) (r : RootOf spec labels c) → r.thread < length spec.entries
  thread_in c r = let e = entry_of_object r.thread (objects.Thread r.tcb) r.stands in
      slice_get_within spec.entries r.thread e.0 e.1

  kind_in : (o : ℕ) (kind : Kind) → kind_at spec o ≡ Some kind → o < length spec.entries
  kind_in o kind h = go (slice_get spec.entries o) refl where
    go : (e : Option Entry) → slice_get spec.entries o ≡ e → o < length spec.entries
    go (Some entry) there = slice_get_within spec.entries o entry there
    go None there = absurd (let none : kind_at spec o ≡ None = rw there refl in cc)

  at_kind : (o : ℕ) (kind : Kind) → kind_at spec o ≡ Some kind → is_kind (Some kind) kind ≡ true → is_at spec kind o ≡ true
  at_kind o kind h self = rw h self

  -- ---- what confers an authority

  calls_by : (o : Option Kind) (r : Rights) → option_confers o r Call ≡ true
      → (o ≡ Some Endpoint) × (r.write && (r.grant || r.reply) ≡ true)
  calls_by (Some Endpoint) r h = (refl, h)
  calls_by _ r h = absurd cc

  receives_by : (o : Option Kind) (r : Rights) → option_confers o r Receive ≡ true
      → ((o ≡ Some Endpoint) ⊎ (o ≡ Some Notification)) × (r.read ≡ true)
  receives_by (Some Endpoint) r h = (inl refl, h)
  receives_by (Some Notification) r h = (inr refl, h)
  receives_by _ r h = absurd cc

  handles_by : (o : Option Kind) (r : Rights) → option_confers o r Handle ≡ true → o ≡ Some Irq
  handles_by (Some Irq) r h = refl
  handles_by _ r h = absurd cc

  signals_by : (o : Option Kind) (r : Rights) → option_confers o r AsyncSend ≡ true → (o ≡ Some Notification) × (r.write ≡ true)
  signals_by (Some Notification) r h = (refl, h)
  signals_by _ r h = absurd cc

  -- ---- one call

  pub call_reached : (s e r : ℕ) → Held spec labels (boot spec) s Call e → Held spec labels (boot spec) r Receive e → s ≢ r
      → Reaches spec labels r Reply s
  call_reached s e r (c, i, to, there, confer, from_is, to_is) (d, j, from, here, hear, by_is, at_is) differ =
      let t = laid.rooted c i to there in let u = laid.rooted d j from here in
      let call = calls_by (kind_at spec to.object) to.rights confer in
      let receive = receives_by (kind_at spec from.object) from.rights hear in
      let endpoint : is_at spec Endpoint to.object ≡ true = at_kind to.object Endpoint call.0 refl in
      let listens : (is_at spec Endpoint from.object ≡ true) ⊎ (is_at spec Notification from.object ≡ true) = elim receive.0 [
        | inl k ↦ inl (at_kind from.object Endpoint k refl)
        | inr k ↦ inr (at_kind from.object Notification k refl)
      ] in
      let one : to.object ≡ from.object = laid.one_endpoint to.object from.object endpoint listens (sym to_is ∙ at_is) in
      let other : t.thread ≢ u.thread = λ same. differ (from_is ∙ sym t.label ∙ ap (label_of labels) same ∙ u.label
      ∙ sym by_is) in
      let b = boot spec in
      let reply : Pending = record { caller = t.thread; grants = from.rights.grant } in
      let peer : Peer spec b t.thread u.thread j to.object d from = record {
        other = other;
        acts = root_acts d u;
        own = record {
          there = number_found spec d j (Capability from) laid.kept here;
          is = subst (λ o. is_at spec Endpoint o ≡ true) one endpoint;
        };
        reads = receive.1;
        same = sym one;
      } in
      let new = called b t.thread u.thread from.rights.grant in
      let long : u.thread < length b.threads = rw (length-map spec.entries (λ (x : Entry). boot_thread x.object))
      (thread_in d u) in
      let pending : (thread_at new u.thread).pending ≡ Some reply =
      ap (λ (x : ThreadState). x.pending)
      (get_or-set_other (with_pending b.threads u.thread (Some reply)) t.thread u.thread _ no_thread (λ same. other (sym same))
      ∙ get_or-set_same b.threads u.thread _ no_thread long) in (
        steps.Call t.thread i u.thread j ∷ [],
        new,
        (
          new,
          (
            c,
            to,
            d,
            from,
            root_acts c t,
            record {
              there = number_found spec c i (Capability to) laid.kept there;
              is = endpoint;
            },
            call.1,
            peer,
            refl,
          ),
          refl,
        ),
        inr (of_reply (u.thread, reply, pending, refl, by_is ∙ sym u.label, from_is ∙ sym t.label)),
      )

  -- ---- one binding

  pub bind_reached : (s d n : ℕ) → Held spec labels (boot spec) s Handle d → Held spec labels (boot spec) s AsyncSend n
      → Reaches spec labels d AsyncSend n
  bind_reached s d n (c, i, irq, there, confer, from_is, to_is) (c2, j, cap, here, signal, by_is, at_is) =
      let one : c2 ≡ c = laid.one_node c2 c j i cap irq here there (sym by_is ∙ from_is) in
      let own : Holds spec c j cap = subst (λ x. Holds spec x j cap) one here in
      let t = laid.rooted c i irq there in
      let handle = handles_by (kind_at spec irq.object) irq.rights confer in
      let send = signals_by (kind_at spec cap.object) cap.rights signal in let b = boot spec in
      let new : State = record b { irqs = slice_set b.irqs irq.object (Some cap.object) } in
      let long : irq.object < length b.irqs = rw (length-map spec.entries (λ (x : Entry). boot_irq x.object))
      (kind_in irq.object Irq handle) in (
        steps.Bind t.thread i j ∷ [],
        new,
        (
          new,
          (
            c,
            irq,
            cap,
            root_acts c t,
            record { there = number_found spec c i (Capability irq) laid.kept there; is = at_kind irq.object Irq handle refl },
            record {
              there = number_found spec c j (Capability cap) laid.kept own;
              is = at_kind cap.object Notification send.0 refl;
            },
            send.1,
            refl,
          ),
          refl,
        ),
        inr (of_irq (irq.object, cap.object, get_or-set_same b.irqs irq.object (Some cap.object) None long, refl, to_is, at_is)),
      )
