-- What the steps of an audit show: capabilities that are held, maps and binds, calls and saved replies.
use Rattle.cap_audit.proofs.Common.{AreParties, Auth, Authority, Deed, Edge, Gains, Has, HoldsAt, IsMade, IsSoFar, List, Made, Notes, OfBoot, OfCap, OfDeed, OfParties, OwnsBoth, Pick, Shows, Step, [], and_parts, ap, arith, boot, call_steps}
use Rattle.cap_audit.proofs.Common.{deed_step, has, inl, inr, is_at, is_at_below, label_of, length, length-set, refl, slice_index, slice_set, subst, sym, true, ℕ, ◌++◌, ◌+◌, ◌<◌, ◌↔◌, ◌∙◌, ◌∷◌, ◌≡◌}
use Rattle.cap_machine.specs.declared.step.Step.TheVariants as moves
use Rattle.cap_model.specs.declared.kind.Kind.TheVariants as kinds
use Rattle.cap_audit.proofs.Quiet.{quiet_cnode}
use Rattle.cap_audit.specs.declared.gates.Party.{Party}
use Rattle.cap_audit.specs.declared.making.Deed.TheVariants as deeds
use Rattle.cap_audit.proofs.Gaining.{shown_gains}
use Rattle.cap_audit.proofs.Growing.{made_bind, made_call, made_held, made_map}

module _ (m : Made) (so : IsSoFar m) where
  pub hold_shows : (node : ℕ) (pick : Pick) → HoldsAt m.found node pick.number pick.cap → (e : Edge)
      → OfCap m.spec m.labels (label_of m.labels node) pick.cap e
      → Shows m.spec m.labels (boot m.spec) m.steps e.from e.authority e.to
  hold_shows node pick at e of =
      rw (of.from_is, of.to_is) (made_held m.spec m.labels m.found m.edges m.steps m.nexts so.made node pick.number pick.cap
      e.authority at of.conferred)

  pub boot_shows : (e : Edge) → OfBoot m.spec m.labels e → Shows m.spec m.labels (boot m.spec) m.steps e.from e.authority e.to
  boot_shows e auth = record { front = []; back = m.steps; parts = refl; state = boot m.spec; run = refl; auth = auth }

  pub act_made : (deed : Deed) (t : ℕ) (from to : Pick) → OwnsBoth m.spec m.found t deed from to
      → IsMade m.spec m.labels m.found m.edges (m.steps ++ deed_step deed t from to ∷ []) m.nexts
  act_made deeds.Map t from to o =
      (made_map m.spec m.labels m.found m.edges m.steps m.nexts so.made t o.node to.number from.number to.cap from.cap o.root
      o.own_to o.is_to o.own_from o.is_from).0
  act_made deeds.Bind t from to o =
      let parts = and_parts (is_at m.spec kinds.Notification to.cap.object) to.cap.rights.write o.is_to in
      (made_bind m.spec m.labels m.found m.edges m.steps m.nexts so.made t o.node from.number to.number from.cap to.cap o.root
      o.own_from o.is_from o.own_to parts.0 parts.1).0

  pub act_shows : (deed : Deed) (t : ℕ) (from to : Pick) → OwnsBoth m.spec m.found t deed from to → (e : Edge)
      → OfDeed m.spec m.labels deed from.cap to.cap e
      → Shows m.spec m.labels (boot m.spec) (m.steps ++ deed_step deed t from to ∷ []) e.from e.authority e.to
  act_shows deeds.Map t from to o e of =
      rw (of.from_is, of.to_is) ((made_map m.spec m.labels m.found m.edges m.steps m.nexts so.made t o.node to.number from.number
      to.cap from.cap o.root o.own_to o.is_to o.own_from o.is_from).1 e.authority of.conferred)
  act_shows deeds.Bind t from to o e of =
      let parts = and_parts (is_at m.spec kinds.Notification to.cap.object) to.cap.rights.write o.is_to in
      subst (λ (x : Edge). Shows m.spec m.labels (boot m.spec) (m.steps ++ moves.Bind t from.number to.number ∷ []) x.from
      x.authority x.to) (sym of) (made_bind m.spec m.labels m.found m.edges m.steps m.nexts so.made t o.node from.number
      to.number from.cap to.cap o.root o.own_from o.is_from o.own_to parts.0 parts.1).1

  module _ (caller listener : Party) (p : AreParties m.spec m.found caller listener) where
    listener_inside : listener.node < length m.nexts
    listener_inside =
        let less : listener.node < length m.spec.entries = is_at_below m.spec kinds.CNode listener.node
        (quiet_cnode m.spec so.made.state so.made.quiet listener.thread listener.node p.roots.peer_root) in
        let same = so.as_many in
        omega arith

    pub call_made : IsMade m.spec m.labels m.found m.edges (m.steps ++ call_steps m.nexts caller listener)
        (slice_set m.nexts listener.node (slice_index m.nexts listener.node + 1))
    call_made =
        (made_call m.spec m.labels m.found m.edges m.steps m.nexts so.made caller.thread listener.thread caller.node listener.node
        caller.number listener.number p.to p.from p.roots p.meet p.may p.own p.listens listener_inside).0

    pub call_shows : (e : Edge) → OfParties m.labels caller listener e
        → Shows m.spec m.labels (boot m.spec) (m.steps ++ call_steps m.nexts caller listener) e.from e.authority e.to
    call_shows e of =
        let made = made_call m.spec m.labels m.found m.edges m.steps m.nexts so.made caller.thread listener.thread caller.node
        listener.node caller.number listener.number p.to p.from p.roots p.meet p.may p.own p.listens listener_inside in
        elim of [
          | inl same ↦ subst (λ (x : Edge). Shows m.spec m.labels (boot m.spec) (m.steps ++ call_steps m.nexts caller listener)
              x.from x.authority x.to) (sym same) made.1
          | inr same ↦ subst (λ (x : Edge). Shows m.spec m.labels (boot m.spec) (m.steps ++ call_steps m.nexts caller listener)
              x.from x.authority x.to) (sym same) made.2
        ]

    pub nexts_length : length (slice_set m.nexts listener.node (slice_index m.nexts listener.node + 1)) ≡ length m.nexts
    nexts_length = length-set m.nexts listener.node (slice_index m.nexts listener.node + 1)

-- what each of the calls gains, from what its steps say

module _ (m new : Made) (so : IsSoFar m) where
  pub boot_gains : (table : List Edge) → ((l : ℕ) (a : Authority) (k : ℕ) → (Has table l a k)
      ↔ Auth m.spec m.labels (boot m.spec) l a k) → Notes (λ e. has table e ≡ true) m new → Gains (OfBoot m.spec m.labels) m new
  boot_gains table are notes = shown_gains (OfBoot m.spec m.labels) m so table (λ e. are e.from e.authority e.to) m.steps m.nexts
      so.made refl (boot_shows m so) new notes

  pub hold_gains : (node : ℕ) (pick : Pick) → HoldsAt m.found node pick.number pick.cap → (from : ℕ)
      → from ≡ label_of m.labels node → (edges slice : List Edge)
      → ((e : Edge) → (has edges e ≡ true) ↔ OfCap m.spec m.labels from pick.cap e) → slice ≡ edges
      → Notes (λ e. has slice e ≡ true) m new → Gains (OfCap m.spec m.labels (label_of m.labels node) pick.cap) m new
  hold_gains node pick at from from_is edges slice are slice_is notes =
      shown_gains (OfCap m.spec m.labels (label_of m.labels node) pick.cap) m so edges
      (λ e. subst (λ (l : ℕ). (has edges e ≡ true) ↔ OfCap m.spec m.labels l pick.cap e) from_is (are e)) m.steps m.nexts so.made
      refl (hold_shows m so node pick at) new (subst (λ (xs : List Edge). Notes (λ e. has xs e ≡ true) m new) slice_is notes)

  module _ (mid : Made) (edges slice : List Edge) (slice_is : slice ≡ edges)
      (notes : Notes (λ e. has slice e ≡ true) mid new) where
    pub act_gains : (deed : Deed) (t : ℕ) (from to : Pick) → OwnsBoth m.spec m.found t deed from to
        → ((e : Edge) → (has edges e ≡ true) ↔ OfDeed m.spec m.labels deed from.cap to.cap e) → (step : Step)
        → step ≡ deed_step deed t from to → (let after : Made = record m { steps = m.steps ++ step ∷ [] } in mid ≡ after)
        → Gains (OfDeed m.spec m.labels deed from.cap to.cap) m new
    act_gains deed t from to own are step step_is mid_is =
        let after : Made = record m { steps = m.steps ++ deed_step deed t from to ∷ [] } in
        let same : mid ≡ after = mid_is ∙ ap (λ (x : Step). let y : Made = record m { steps = m.steps ++ x ∷ [] } in y) step_is in
        shown_gains (OfDeed m.spec m.labels deed from.cap to.cap) m so edges are (m.steps ++ deed_step deed t from to ∷ [])
        m.nexts (act_made m so deed t from to own) refl (act_shows m so deed t from to own) new
        (subst (λ (xs : List Edge). Notes (λ e. has xs e ≡ true) after new) slice_is
        (subst (λ (x : Made). Notes (λ e. has slice e ≡ true) x new) same notes))

    pub call_gains : (caller listener : Party) → AreParties m.spec m.found caller listener
        → ((e : Edge) → (has edges e ≡ true) ↔ OfParties m.labels caller listener e) → (let after : Made = record m {
          steps = m.steps ++ call_steps m.nexts caller listener;
          nexts = slice_set m.nexts listener.node (slice_index m.nexts listener.node + 1);
        } in mid ≡ after) → Gains (OfParties m.labels caller listener) m new
    call_gains caller listener p are mid_is =
        let after : Made = record m {
          steps = m.steps ++ call_steps m.nexts caller listener;
          nexts = slice_set m.nexts listener.node (slice_index m.nexts listener.node + 1);
        } in
        shown_gains (OfParties m.labels caller listener) m so edges are (m.steps ++ call_steps m.nexts caller listener)
        (slice_set m.nexts listener.node (slice_index m.nexts listener.node + 1))
        (call_made m so caller listener p) (nexts_length m so caller listener p) (call_shows m so caller listener p) new
        (subst (λ (xs : List Edge). Notes (λ e. has xs e ≡ true) after new) slice_is
        (subst (λ (x : Made). Notes (λ e. has slice e ≡ true) x new) mid_is notes))
