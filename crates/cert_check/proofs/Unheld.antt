-- The least edge of the boot state that is lacking, over all objects.
use Rattle.cert_check.proofs.Common.{AsyncSend, BreaksBoot, CNode, Cap, Edge, Entry, Finds, Irq, LesserEdge, LinkLack, ObjectLack, OfTcb, Pages, SlotsLack, Spec, Thread, ThreadLack, arith, cases_lt, has, inl, inr, label_of, rules, slice_get_within}
use Rattle.std.specs.Prelude.{◌≡◌, ◌≢◌, ◌⊎◌, ◌<◌, ◌≤◌, ℕ, ◌+◌, true, false, List, slice_get, length, Option, Some, None, refl}
use Rattle.cap_model.specs.declared.object.Tcb.{Tcb}
use Rattle.cap_model.specs.declared.level.Level.{Level}
use Rattle.cert_check.proofs.LeastEdges.{finds_same, finds_either}
use Rattle.cert_check.proofs.Asked.{AskedSome, held_asked, structural_asked, asked_at}

module _ (spec : Spec) (labels : List ℕ) (cert : List Edge) where
  -- an edge that is asked for because of an object before place i
  pub record LackBelow (i : ℕ) (e : Edge) : Type 0 where
    pub place : ℕ
    pub entry : Entry
    pub below : place < i
    pub there : slice_get spec.entries place ≡ Some entry
    pub lack : ObjectLack spec labels cert (label_of labels place) entry.object e

  pub unheld_more : (i : ℕ) (entry : Entry) (best found kept : Option Edge) → slice_get spec.entries i ≡ Some entry
      → Finds (LackBelow i) best → Finds (ObjectLack spec labels cert (label_of labels i) entry.object) found
      → LesserEdge best found kept → Finds (LackBelow (i + 1)) kept
  unheld_more i entry best found kept here before now is =
      finds_same (λ e. LackBelow i e ⊎ ObjectLack spec labels cert (label_of labels i) entry.object e) (LackBelow (i + 1))
      (λ e h. elim h [
        | inl x ↦ search (rules)
        | inr x ↦ record { place = i; entry = entry; below = omega arith; there = here; lack = x }
      ])
      (λ e x.
      elim (cases_lt x.place i) [
        | inl below ↦ inl (record { place = x.place; entry = x.entry; below = below; there = x.there; lack = x.lack })
        | inr ge ↦ search (rules)
      ])
      kept
      (finds_either (LackBelow i) (ObjectLack spec labels cert (label_of labels i) entry.object) best found kept before now is)

  unheld_to : (i : ℕ) (e : Edge) → LackBelow i e → BreaksBoot spec labels cert e
  unheld_to i e x = record {
    at_boot = asked_at spec labels x.place x.entry x.entry.object e x.there refl x.lack.asked;
    lacks = x.lack.lacks;
  }

  unheld_some : (i : ℕ) (e : Edge) → length spec.entries ≤ i → has cert e ≡ false → AskedSome spec labels e → LackBelow i e
  unheld_some i e le lacks x = search (rules, slice_get_within)

  unheld_from : (i : ℕ) (e : Edge) → length spec.entries ≤ i → BreaksBoot spec labels cert e → LackBelow i e
  unheld_from i e le b =
      elim b.at_boot [
        | inl h ↦ unheld_some i e le b.lacks (held_asked spec labels e h)
        | inr h ↦ unheld_some i e le b.lacks (structural_asked spec labels e e.from e.authority e.to refl h.0 h.1)
      ]

  pub unheld_end : (i : ℕ) (best : Option Edge) → length spec.entries ≤ i → Finds (LackBelow i) best
      → Finds (BreaksBoot spec labels cert) best
  unheld_end i best le found = finds_same (LackBelow i) (BreaksBoot spec labels cert) (λ e x. unheld_to i e x)
      (λ e b. unheld_from i e le b) best found

  pub unheld_start : Finds (LackBelow 0) None
  unheld_start e x = let b = x.below in omega arith

  -- the parts of an object
  module _ (l : ℕ) where
    pub cnode_lack : (bits : ℕ) (slots : List (ℕ × Cap)) (r : Option Edge)
        → Finds (SlotsLack spec labels cert true l slots (length slots)) r
        → Finds (ObjectLack spec labels cert l (CNode bits slots)) r
    cnode_lack bits slots r found =
        finds_same (SlotsLack spec labels cert true l slots (length slots)) (ObjectLack spec labels cert l (CNode bits slots))
        (λ e x. record {
          asked = search (rules);
          lacks = x.lack.lacks;
        })
        (λ e x. record {
          place = x.asked.place;
          slot = x.asked.slot;
          below = slice_get_within slots x.asked.place x.asked.slot x.asked.there;
          there = x.asked.there;
          lack = search (rules);
        })
        r found

    pub pages_lack : (level : Level) (slots : List (ℕ × Cap)) (r : Option Edge)
        → Finds (SlotsLack spec labels cert false l slots (length slots)) r
        → Finds (ObjectLack spec labels cert l (Pages level slots)) r
    pages_lack level slots r found =
        finds_same (SlotsLack spec labels cert false l slots (length slots)) (ObjectLack spec labels cert l (Pages level slots))
        (λ e x. record {
          asked = search (rules);
          lacks = x.lack.lacks;
        })
        (λ e x. record {
          place = x.asked.0.place;
          slot = x.asked.0.slot;
          below = slice_get_within slots x.asked.0.place x.asked.0.slot x.asked.0.there;
          there = x.asked.0.there;
          lack = search (rules);
        })
        r found

    thread_to : (tcb : Tcb) (e : Edge) → ThreadLack spec labels cert l tcb e → ObjectLack spec labels cert l (Thread tcb) e
    thread_to tcb e (inl x) = search (rules)
    thread_to tcb e (inr (inl x)) = search (rules)
    thread_to tcb e (inr (inr x)) = search (rules)

    thread_from : (tcb : Tcb) (e : Edge) → e.from ≢ e.to → has cert e ≡ false → OfTcb spec labels l tcb e
        → ThreadLack spec labels cert l tcb e
    thread_from tcb e differ lacks (inl x) = search (rules)
    thread_from tcb e differ lacks (inr (inl x)) = search (rules)
    thread_from tcb e differ lacks (inr (inr x)) = search (rules)

    pub tcb_lack : (tcb : Tcb) (r : Option Edge) → Finds (ThreadLack spec labels cert l tcb) r
        → Finds (ObjectLack spec labels cert l (Thread tcb)) r
    tcb_lack tcb r found = search (rules, finds_same, thread_to, thread_from)

    pub irq_lack : (bound : Option ℕ) (r : Option Edge) → Finds (LinkLack labels cert l AsyncSend bound) r
        → Finds (ObjectLack spec labels cert l (Irq bound)) r
    irq_lack bound r found = search (rules, finds_same)
