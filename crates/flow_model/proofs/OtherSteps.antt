-- A step of a thread that is not of the set changes no object of the set.
use Rattle.std.proofs.Common.{rules}
use Rattle.flow_model.proofs.LawsCommon.{Bool, Capability, Content, Control, Edge, Handle, IsClosed, List, None, Option, Pending, Reached, SavedReply, Some, Spec, State, Stays, Step, StepTo, added, dropped, false, grown, grown_at, in_set, lessened}
use Rattle.flow_model.proofs.LawsCommon.{node_at, own_edge, refl, released, replied, sym, thread_at, thread_of, true, waiting, with_pending, without, ℕ, ◌∙◌, ◌≡◌}
use Rattle.cap_machine.specs.declared.step.Step.TheVariants as steps
use Rattle.cap_model.specs.declared.kind.Kind.TheVariants as kinds
use Rattle.flow_model.proofs.Alike.{Alike, others_node, others_thread, others_irq, others_mapped}
use Rattle.flow_model.proofs.Replying.{side_owes, side_saved}
use Rattle.flow_model.proofs.Sides.{from_set, side_root, side_sender, side_own, side_own_space, side_listener, side_peer}

pub not_from : (a b : Bool) → (b ≡ true → a ≡ true) → a ≡ false → b ≡ false
not_from a true from out = absurd (let w = from refl in cc)
not_from a false from out = refl

module _ (spec : Spec) (labels : List ℕ) (policy : List Edge) (inside : ℕ → Bool) (stays : Stays spec labels policy)
    (closed : IsClosed policy inside) where
  module _ (s : State) (reached : Reached spec s) (r : State) (alike : Alike (in_set labels inside) s r) where
    other_grown : (c : ℕ) (content : Content) → in_set labels inside c ≡ false
        → Alike (in_set labels inside) (record s { nodes = grown_at s.nodes c content }) r
    other_grown c content out = others_node (in_set labels inside) s r alike c (grown (node_at s c) content) out

    other_without : (c i : ℕ) → in_set labels inside c ≡ false → Alike (in_set labels inside) (dropped s c i) r
    other_without c i out = others_node (in_set labels inside) s r alike c (without (node_at s c) i) out

    other_waiting : (t : ℕ) (b : Bool) → in_set labels inside t ≡ false
        → Alike (in_set labels inside) (record s { threads = waiting s.threads t b }) r
    other_waiting t b out = others_thread (in_set labels inside) s r alike t (record (thread_at s t) { waits = b }) out

    other_pending : (t : ℕ) (pending : Option Pending) → in_set labels inside t ≡ false
        → Alike (in_set labels inside) (record s { threads = with_pending s.threads t pending }) r
    other_pending t pending out = others_thread (in_set labels inside) s r alike t
        (record (thread_at s t) { pending = pending }) out

  other_replied : (s r : State) (t caller : ℕ) → Reached spec s → Alike (in_set labels inside) s r
      → in_set labels inside t ≡ false → in_set labels inside caller ≡ false → Alike (in_set labels inside) (replied s t caller) r
  other_replied s r t caller reached alike out away =
      others_thread (in_set labels inside) (record s { threads = with_pending s.threads t None }) r
      (other_pending s reached r alike t None out) caller _ away

  other_released : (s r : State) (c i caller : ℕ) → Alike (in_set labels inside) s r → in_set labels inside c ≡ false
      → in_set labels inside caller ≡ false → Alike (in_set labels inside) (released s c i caller) r
  other_released s r c i caller alike out away = search (rules, others_thread, in_set, dropped, others_node, without, node_at)

  -- each of the twelve kinds of step
  pub other_step : (s r new : State) (step : Step) → Reached spec s → Alike (in_set labels inside) s r
      → in_set labels inside (thread_of step) ≡ false → StepTo spec s step new → Alike (in_set labels inside) new r
  other_step s r new (steps.Take t i j rights) reached alike out (c, to, x, acts, own, there, e) =
      rw e (other_grown s reached r alike c _ (sym (side_root spec labels policy inside stays closed s reached t c acts.root)
      ∙ out))
  other_step s r new (steps.Put t i j rights) reached alike out (c, to, x, acts, own, there, e) =
      let root = side_root spec labels policy inside stays closed s reached t c acts.root in
      let over = side_own spec labels policy inside stays closed s reached c i kinds.CNode to Control refl refl own refl in
      rw e (other_grown s reached r alike to.object _ (sym over ∙ sym root ∙ out))
  other_step s r new (steps.Grant t i u j k rights) reached alike out (c, to, x, d, from, acts, own, may, there, peer, e) =
      let root = side_root spec labels policy inside stays closed s reached t c acts.root in
      let over = side_sender spec labels policy inside stays closed s reached c i to _ own may in
      let way = side_listener spec labels policy inside stays closed s reached t u j to.object d from peer in
      rw e (other_grown s reached r alike d _ (sym way ∙ sym over ∙ sym root ∙ out))
  other_step s r new (steps.Call t i u j) reached alike out (c, to, d, from, acts, own, may, peer, e) =
      let over = side_sender spec labels policy inside stays closed s reached c i to _ own may in
      let way = side_peer spec labels policy inside stays closed s reached t u j to.object d from peer in
      rw e
      (others_thread (in_set labels inside)
      (record s { threads = with_pending s.threads u (Some (record { caller = t; grants = from.rights.grant })) }) r
      (other_pending s reached r alike u (Some (record { caller = t; grants = from.rights.grant })) (sym way ∙ sym over
      ∙ sym (side_root spec labels policy inside stays closed s reached t c acts.root) ∙ out))
      t _ out)
  other_step s r new (steps.Reply t None) reached alike out (c, p, acts, owes, e) =
      rw e (other_replied s r t p.caller reached alike out
      (sym (side_owes spec labels policy inside stays closed s reached t p owes) ∙ out))
  other_step s r new (steps.Reply t (Some copy)) reached alike out (c, p, x, d, acts, owes, grants, there, root, e) =
      let away = sym (side_owes spec labels policy inside stays closed s reached t p owes) ∙ out in
      rw e (others_node (in_set labels inside) (replied s t p.caller) r (other_replied s r t p.caller reached alike out
      away) d _ (sym (side_root spec labels policy inside stays closed s reached p.caller d root) ∙ away))
  other_step s r new (steps.SetCspace t i j) reached alike out (c, to, x, acts, own, of, e) =
      let root = side_root spec labels policy inside stays closed s reached t c acts.root in
      let over = side_own spec labels policy inside stays closed s reached c i kinds.Thread to Control refl refl own refl in
      rw e (others_thread (in_set labels inside) s r alike to.object _ (sym over ∙ sym root ∙ out))
  other_step s r new (steps.SetVspace t i j) reached alike out (c, to, x, acts, own, of, e) =
      let root = side_root spec labels policy inside stays closed s reached t c acts.root in
      let over = side_own spec labels policy inside stays closed s reached c i kinds.Thread to Control refl refl own refl in
      rw e (others_thread (in_set labels inside) s r alike to.object _ (sym over ∙ sym root ∙ out))
  other_step s r new (steps.Map t i j rights) reached alike out (c, frame, x, acts, own, of, e) =
      let root = side_root spec labels policy inside stays closed s reached t c acts.root in
      let over = side_own_space spec labels policy inside stays closed s reached c j x of in
      rw e (others_mapped (in_set labels inside) s r alike _ (sym over ∙ sym root ∙ out))
  other_step s r new (steps.Bind t i j) reached alike out (c, irq, x, acts, own, of, writes, e) =
      let away = not_from (in_set labels inside c) (in_set labels inside irq.object) (from_set spec labels policy inside stays
      closed s reached Handle c irq.object refl (own_edge spec labels s c i kinds.Irq irq Handle own refl))
      (sym (side_root spec labels policy inside stays closed s reached t c acts.root) ∙ out) in
      rw e (others_irq (in_set labels inside) s r alike irq.object _ away)
  other_step s r new (steps.Drop t i) reached alike out (c, x, acts, there, e) =
      rw e (other_without s reached r alike c i (sym (side_root spec labels policy inside stays closed s reached t c acts.root)
      ∙ out))
  other_step s r new (steps.Save t) reached alike out (c, p, acts, owes, e) =
      let away = sym (side_root spec labels policy inside stays closed s reached t c acts.root) ∙ out in
      rw e (others_thread (in_set labels inside) (record s { nodes = grown_at s.nodes c (SavedReply p) }) r
      (other_grown s reached r alike c (SavedReply p) away) t _ out)
  other_step s r new (steps.ReplyTo t i None) reached alike out (c, p, acts, there, e) =
      let away = sym (side_root spec labels policy inside stays closed s reached t c acts.root) ∙ out in
      rw e (other_released s r c i p.caller alike away
      (sym (side_saved spec labels policy inside stays closed s reached c i p there) ∙ away))
  other_step s r new (steps.ReplyTo t i (Some copy)) reached alike out (c, p, x, d, acts, there, grants, has, root, e) =
      let away = sym (side_root spec labels policy inside stays closed s reached t c acts.root) ∙ out in
      let far = sym (side_saved spec labels policy inside stays closed s reached c i p there) ∙ away in
      let beyond = sym (side_root spec labels policy inside stays closed s reached p.caller d root) ∙ far in
      rw e (other_released (added s d (lessened x copy.1)) r c i p.caller
      (other_grown s reached r alike d (Capability (lessened x copy.1)) beyond) away far)
