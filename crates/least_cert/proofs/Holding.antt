-- The held edges of the boot state are what the capabilities of CNodes confer.
use Rattle.least_cert.proofs.Common.{Adds, AddsAll, AreHeld, AreLinks, Authority, Begins, Closure, Contains, Edge, Entry, Grant, InLeast, IsEmpty, IsSound, KeepsRules, List, OfCap, OfHolder, OfHolders, OfLeast, OfObject, OfOther, OfOthers, Some}
use Rattle.least_cert.proofs.Common.{Spec, [], arith, between_labels, edge, filter_map, has, inl, inr, label_of, map, refl, slice_get, subst, sym, true, ℕ, ◌∙◌, ◌≡◌, ◌≢◌, ◌⊎◌}
use Rattle.cap_machine.proofs.BootSources.{auth_source, source_auth}
use Rattle.cap_model.specs.Auth.{Auth, Held, Structural}
use Rattle.cap_model.specs.State.{Node, boot, boot_node, boot_slot, no_node, node_at}
use Rattle.cap_model.specs.declared.cap.Cap.{Cap}
use Rattle.cap_model.specs.declared.object.Object.{Object}
use Rattle.cap_model.specs.declared.object.Object.TheVariants.{Endpoint, Notification, CNode, Thread, Frame, Pages, Irq}
use Rattle.cap_model.specs.declared.state.Content.TheVariants.{Capability}
use Rattle.cap_model.proofs.BootPlaces.{at_entry, contains_at, entry_at, slot_of, boot_contains}
use Rattle.least_cert.proofs.Growth.{knows_grows}
use Rattle.least_cert.proofs.LeastKeeps.{least_keeps}
use Rattle.least_cert.proofs.Listing.{from_mapped, to_mapped}
use Rattle.least_cert.proofs.Passing.{link_is, link_of}

module _ (spec : Spec) (labels : List ℕ) where
  held_object : (from : ℕ) (object : Object) (i : ℕ) (x : Cap) (e : Edge) → Contains (boot_node object).slots (i, Capability x)
      → OfCap spec labels from x e → OfHolder spec labels from object e
  held_object from (CNode bits slots) i x e there of_cap =
      let k = contains_at (map boot_slot slots) (i, Capability x) there in
      let s = slot_of slots k.0 i (Capability x) k.1 in
      let here : Capability s.0.1 ≡ Capability x = s.2 in
      let same : x ≡ s.0.1 = cc in
      record { place = k.0; item = s.0; there = s.1; by = subst (λ (y : Cap). OfCap spec labels from y e) same of_cap }
  held_object from _ i x e there of_cap = absurd (let w = there.1 in omega arith)

  held_source : (l : ℕ) (a : Authority) (m : ℕ) → Held spec labels (boot spec) l a m → OfHolders spec labels (edge l a m)
  held_source l a m (c, i, x, there, conf, from, to) =
      elim (at_entry boot_node spec.entries c no_node) [
        | inl found ↦ record {
          place = c;
          item = found.0;
          there = found.1;
          by = held_object (label_of labels c) found.0.object i x (edge l a m)
              (subst (λ (n : Node). Contains n.slots (i, Capability x)) found.2 there) (record {
                from_is = from;
                conferred = conf;
                to_is = to;
              });
        }
        | inr none ↦
            absurd (let c : Contains no_node.slots (i, Capability x) = subst (λ (n : Node). Contains n.slots (i, Capability x))
            none there in let w = c.1 in omega arith)
      ]

  object_held : (o : ℕ) (entry : Entry) (object : Object) (e : Edge) → slice_get spec.entries o ≡ Some entry
      → entry.object ≡ object
      → OfHolder spec labels (label_of labels o) object e → Held spec labels (boot spec) e.from e.authority e.to
  object_held o entry (CNode bits slots) e here is of =
      let node : node_at (boot spec) o ≡ boot_node entry.object = entry_at boot_node spec.entries o no_node entry here in (
        o,
        of.item.0,
        of.item.1,
        rw (node, is) (boot_contains slots of.place of.item of.there),
        of.by.conferred,
        of.by.from_is,
        of.by.to_is,
      )
  object_held o entry _ e here is h = absurd h

  source_held : (e : Edge) → OfHolders spec labels e → Held spec labels (boot spec) e.from e.authority e.to
  source_held e h = object_held h.place h.item h.item.object e h.there refl h.by

  pub are_held : (edges : List Edge) → Adds (OfHolders spec labels) [] edges → AreHeld spec labels edges
  are_held edges grown = record {
    only = λ e h. elim (grown.only e h) [ inl none ↦ absurd cc | inr of ↦ source_held e of ];
    every = λ l a m h. grown.added (edge l a m) (held_source l a m h);
  }

  other_object : (from : ℕ) (object : Object) (e : Edge) → OfOther spec labels from object e → OfObject spec labels from object e
  other_object from (Pages level slots) e h = h
  other_object from (Thread tcb) e h = h
  other_object from (Irq bound) e h = h
  other_object from _ e h = absurd h

  held_or_other : (from : ℕ) (object : Object) (e : Edge) → OfObject spec labels from object e
      → (OfHolder spec labels from object e) ⊎ (OfOther spec labels from object e)
  held_or_other from (CNode bits slots) e h = inl h
  held_or_other from Endpoint e h = absurd h
  held_or_other from Notification e h = absurd h
  held_or_other from (Frame paddr fill) e h = absurd h
  held_or_other from _ e h = inr h

  other_auth : (e : Edge) → OfOthers spec labels e → Auth spec labels (boot spec) e.from e.authority e.to
  other_auth e h =
      source_auth spec labels e.from e.authority e.to
      (record {
        place = h.place;
        item = h.item;
        there = h.there;
        by = other_object (label_of labels h.place) h.item.object e h.by;
      })

  structural_source : (e : Edge) → Structural spec labels (boot spec) e.from e.authority e.to
      → (Held spec labels (boot spec) e.from e.authority e.to) ⊎ (OfOthers spec labels e)
  structural_source e h =
      let of = auth_source spec labels e.from e.authority e.to (inr h) in
      elim (held_or_other (label_of labels of.place) of.item.object e of.by) [
        | inl held ↦ inl (source_held e (record { place = of.place; item = of.item; there = of.there; by = held }))
        | inr other ↦ inr (record { place = of.place; item = of.item; there = of.there; by = other })
      ]

  pub are_links : (edges links : List Edge) → Adds (OfOthers spec labels) [] edges → links ≡ filter_map between_labels edges
      → AreLinks spec labels links
  are_links edges links grown is = record {
    only = λ e h.
        let from = from_mapped between_labels edges e (subst (λ (xs : List Edge). has xs e ≡ true) is h) in
        let link = link_is from.0 e from.2 in (
          elim (grown.only e (subst (λ (x : Edge). has edges x ≡ true) link.0 from.1)) [
            | inl none ↦ absurd cc
            | inr of ↦
                other_auth e of
          ],
          link.1,
        );
    every = λ l a m h differ.
        elim (structural_source (edge l a m) h) [
          | inl held ↦ inl held
          | inr of ↦ inr
              (subst (λ (xs : List Edge). has xs (edge l a m) ≡ true) (sym is)
              (to_mapped between_labels edges (edge l a m) (edge l a m) (grown.added (edge l a m) of)
              (link_of (edge l a m) differ)))
        ];
  }

  -- ---- what the boot state asks for is of the least certificate

  rules : KeepsRules spec labels (InLeast spec labels)
  rules = least_keeps spec labels

  auth_least : (l : ℕ) (a : Authority) (m : ℕ) → Auth spec labels (boot spec) l a m → l ≢ m → InLeast spec labels l a m
  auth_least l a m (inl held) differ = rules.boot_held l a m held
  auth_least l a m (inr other) differ = rules.boot_structural l a m other differ

  module _ (c : Closure) (empty : IsEmpty spec labels c) where
    pub empty_sound : IsSound c
    empty_sound = record {
      known_is = λ e. rw (empty.known_is, empty.queue_is) refl;
      turned_is = λ e. rw (empty.turned_is, empty.queue_is) refl;
      as_many = rw (empty.known_is, empty.queue_is) refl;
      few = rw empty.known_is (omega arith);
      least = λ e h. absurd (let g : has [] e ≡ true = subst (λ (xs : List Edge). has xs e ≡ true) empty.queue_is h in cc);
      flows = λ s r h. absurd (let g : has [] (edge s Grant r) ≡ true = subst (λ (xs : List Edge). has xs (edge s Grant r) ≡ true)
          empty.gives_is h in cc);
      less = λ e h. absurd (let g : has [] e ≡ true = subst (λ (xs : List Edge). has xs e ≡ true) empty.queue_is h in cc);
      gives_less = λ e h. absurd (let g : has [] e ≡ true = subst (λ (xs : List Edge). has xs e ≡ true) empty.gives_is h in cc);
      leads = λ l. rw empty.leaders_is (λ a x other h. h);
      follows = λ l. rw empty.leaders_is (λ a x other h. h);
      flat = λ l. rw empty.leaders_is refl;
      carried = λ e h. absurd (let g : has [] e ≡ true = subst (λ (xs : List Edge). has xs e ≡ true) empty.queue_is h in cc);
      few_leaders = rw empty.leaders_is (omega arith);
    }

    pub held_least : (edges : List Edge) → AreHeld spec labels edges → (e : Edge) → has edges e ≡ true → OfLeast c e
    held_least edges are e h = rw (empty.spec_is, empty.labels_is) (rules.boot_held e.from e.authority e.to (are.only e h))

    module _ (held links : List Edge) (mid new : Closure) (are_h : AreHeld spec labels held) (are_l : AreLinks spec labels links)
        (add_h : AddsAll held c mid) where
      pub links_least : (e : Edge) → has links e ≡ true → OfLeast mid e
      links_least e h =
          let x = are_l.only e h in
          rw (add_h.grows.spec_is, add_h.grows.labels_is, empty.spec_is, empty.labels_is)
          (auth_least e.from e.authority e.to x.0 x.1)

      begun_spec : (add_l : AddsAll links mid new) → new.spec ≡ spec
      begun_spec add_l = add_l.grows.spec_is ∙ (add_h.grows.spec_is ∙ empty.spec_is)

      begun_labels : (add_l : AddsAll links mid new) → new.labels ≡ labels
      begun_labels add_l = add_l.grows.labels_is ∙ (add_h.grows.labels_is ∙ empty.labels_is)

      pub begins_so : AddsAll links mid new → Begins spec labels new
      begins_so add_l = record {
        spec_is = begun_spec add_l;
        labels_is = begun_labels add_l;
        sound = add_l.grows.sound;
        has_boot = record {
          held = rw (begun_spec add_l, begun_labels add_l) (λ l a m h. knows_grows mid new add_l.grows (edge l a m)
              (add_h.there (edge l a m) (are_h.every l a m h)));
          structural = rw (begun_spec add_l, begun_labels add_l) (λ l a m h differ. elim (are_l.every l a m h differ) [
            | inl of ↦ knows_grows mid new add_l.grows (edge l a m) (add_h.there (edge l a m) (are_h.every l a m of))
            | inr there ↦ add_l.there (edge l a m) there
          ]);
        };
      }
