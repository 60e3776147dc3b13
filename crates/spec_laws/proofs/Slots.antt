-- The slots of a system are those of its source
use Rattle.spec_laws.proofs.Common.{CanSlot, Cap, Connector, Domain, FlatConnection, HasSlots, Interrupt, IrqOf, IsIn, IsIrqLine, IsIrqOf, IsLineOf, IsSlotLine, IsUsed, List, MapLine, Object, Option, OwnLock, SlotUse, Some, Spec, Tables, [], ap}
use Rattle.spec_laws.proofs.Common.{arith, bits_for, domain_lines, domain_slots, from_gather, gather, in_gather, in_left, in_right, inl, irq_number, length, line_by, lines, map_lines, place, refl, single, slice_get, slot_line, slot_lines, slots_at}
use Rattle.spec_laws.proofs.Common.{rules, spec_of, subst, sym, thread_lines, use_cap, uses_at, window_lines, ℕ, ◌++◌, ◌+◌, ◌∙◌, ◌∷◌, ◌≡◌}
use Rattle.cap_model.specs.declared.object.Object.TheVariants as objects
use Rattle.spec_laws.proofs.MapLines.{by_line}
use Rattle.spec_laws.proofs.SlotLists.{from_order, some}
use Rattle.spec_laws.proofs.Slotting.{cnode_object, irq_is, slotted}
use Rattle.spec_laws.proofs.Uses.{uses_are}

module _ (t : Tables) (can : CanSlot t) where
  abbrev spec : Spec
  spec = spec_of t

  -- ---- interrupt lines

  -- an interrupt's number is the settled one
  set_number : (k at : ℕ) (c : FlatConnection) → slice_get t.flat.connections k ≡ Some c → (w : IsIrqOf t spec k at)
      → irq_number t.settled k c ≡ w.setting.irq
  set_number k at c h w = cc

  lines_are : (n at : ℕ) → IsIn (n, at) (lines t) → IsIrqLine t spec n at
  lines_are n at i =
      let F : ℕ → FlatConnection → List (ℕ × ℕ) = λ k c. line_by t k c c.connector in
      let a = from_gather F (n, at) t.flat.connections (from_order (n, at) (gather F t.flat.connections) i) in
      by_kind a.0 a.1 a.2 a.1.connector refl a.3 where
        by_kind : (k : ℕ) (c : FlatConnection) → slice_get t.flat.connections k ≡ Some c → (m : Connector) → c.connector ≡ m
            → IsIn (n, at) (line_by t k c m) → IsIrqLine t spec n at
        by_kind k c h Interrupt e j =
            let line : ℕ × ℕ = (irq_number t.settled k c, place t (IrqOf k)) in
            subst (λ (z : ℕ × ℕ). IsIrqLine t spec z.0 z.1) (single line (n, at) j) (record {
              k = k;
              connection = c;
              here = h;
              is_interrupt = e;
              irq = irq_is t can k c h e;
              number = set_number k (place t (IrqOf k)) c h (irq_is t can k c h e);
            })
        by_kind k c h _ e j = absurd j

  -- ---- the map

  said : (d n : ℕ) (u : SlotUse) → IsLineOf u (n + 1) (use_cap t d n u) (slot_line (use_cap t d n u).object n u)
  said d n (OwnLock leaf m) = refl
  said d n _ = refl

  line_is : (d n : ℕ) (u : SlotUse) (line : MapLine) → IsLineOf u (n + 1) (use_cap t d n u) line
      → slot_line (use_cap t d n u).object n u ≡ line
  line_is d n (OwnLock leaf m) line e = sym e
  line_is d n _ line e = sym e

  used : (d : ℕ) (x : Domain) (n : ℕ) (u : SlotUse) → slice_get t.flat.domains d ≡ Some x → slice_get (uses_at t d) n ≡ Some u
      → IsUsed t spec (slot_line (use_cap t d n u).object n u)
  used d x n u h e =
      record {
        domain = d;
        leaves = x;
        here = h;
        before = n;
        used = u;
        at = ap (λ z. slice_get z n) (sym (uses_are t can.slots d x h)) ∙ e;
        bits = bits_for (length (uses_at t d));
        slots = slots_at t d;
        is = cnode_object t can d x h;
        cap = use_cap t d n u;
        holds = in_gather (λ n u. (n + 1, use_cap t d n u) ∷ []) (n + 1, use_cap t d n u) (uses_at t d) n u e (inl refl);
        said = said d n u;
      }

  map_only : (line : MapLine) → IsIn line (map_lines t) → IsSlotLine line → IsUsed t spec line
  map_only = by_line t (λ line. IsSlotLine line → IsUsed t spec line) (λ d x h s. absurd s) (λ d x h n y e s. absurd s)
      (λ d x h n u e s. used d x n u h e) (λ d x h n w e s. absurd s)

  abbrev slots_of_cnode : Option Object → List (ℕ × Cap)
  slots_of_cnode (Some (objects.CNode bits slots)) = slots
  slots_of_cnode _ = []

  map_every : (line : MapLine) → IsUsed t spec line → IsIn line (map_lines t)
  map_every line w =
      let d = w.domain in
      let same : w.slots ≡ slots_at t d = ap slots_of_cnode (sym w.is ∙ cnode_object t can d w.leaves w.here) in
      let f : ℕ → SlotUse → List (ℕ × Cap) = λ n u. (n + 1, use_cap t d n u) ∷ [] in
      let a = from_gather f (w.before + 1, w.cap) (uses_at t d) (subst (λ z. IsIn (w.before + 1, w.cap) z) same w.holds) in
      let slot : ℕ × Cap = (a.0 + 1, use_cap t d a.0 a.1) in
      let eq : slot ≡ (w.before + 1, w.cap) = single slot (w.before + 1, w.cap) a.3 in
      let number : a.0 + 1 ≡ w.before + 1 = ap (λ (z : ℕ × Cap). z.0) eq in
      let at : a.0 ≡ w.before = omega (arith, number) in
      let mine : slice_get (uses_at t d) w.before ≡ Some w.used = search (rules, uses_are) in
      let Q : ℕ → Type 0 = λ n. slice_get (uses_at t d) n ≡ Some a.1 in
      let cap : use_cap t d w.before w.used ≡ w.cap = search (rules, some) in
      let is = line_is d w.before w.used line (subst (λ z. IsLineOf w.used (w.before + 1) z line) (sym cap) w.said) in
      let h : ℕ → SlotUse → List MapLine = λ n u. slot_line (use_cap t d n u).object n u ∷ [] in
      let F : ℕ → Domain → List MapLine = λ d x. domain_slots t d in
      in_right line (domain_lines t) (thread_lines t ++ (slot_lines t ++ window_lines t))
      (in_right line (thread_lines t) (slot_lines t ++ window_lines t) (in_left line (slot_lines t) (window_lines t)
      (in_gather F line t.flat.domains d w.leaves w.here (in_gather h line (uses_at t d) w.before w.used mine (inl is)))))

  has_slots : HasSlots t spec (map_lines t)
  has_slots = search (rules, slotted, irq_is, lines_are, map_only, map_every)

pub are_slots : (t : Tables) → CanSlot t → HasSlots t (spec_of t) (map_lines t)
are_slots t can = has_slots t can
