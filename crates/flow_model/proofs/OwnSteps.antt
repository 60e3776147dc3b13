-- A step of a thread of the set looks only at objects of the set, so it can be done in a state that is alike there, and
-- leads to states that are alike there.
use Rattle.std.proofs.Common.{rules}
use Rattle.flow_model.proofs.LawsCommon.{Bool, Cap, Capability, Control, Edge, IsClosed, List, Mapped, None, Peer, Reached, Some, Spec, State, Stays, Step, StepTo, [], added, both_rights, called, dropped, false, grown_at, in_set, is_at}
use Rattle.flow_model.proofs.LawsCommon.{lessened, read_write, refl, released, replied, saved, set, sym, thread_of, true, with_pending, with_root, with_space, ℕ, ◌++◌, ◌∙◌, ◌∷◌, ◌≡◌}
use Rattle.cap_machine.specs.declared.step.Step.TheVariants as steps
use Rattle.cap_model.specs.declared.kind.Kind.TheVariants as kinds
use Rattle.flow_model.proofs.Alike.{Alike, both_irqs, both_mapped, both_grown, both_without, both_waiting, both_pending, both_root, both_space, root_too, owes_too, acts_too, content_too, own_too}
use Rattle.flow_model.proofs.Replying.{side_owes, side_saved}
use Rattle.flow_model.proofs.Sides.{side_root, side_sender, side_own, side_listener, side_peer}

-- the step can be done in r too, and leads to a state that is alike
pub record Follows (spec : Spec) (side : ℕ → Bool) (r : State) (step : Step) (new : State) : Type 0 where
  pub end : State
  pub does : StepTo spec r step end
  pub alike : Alike side new end

module _ (spec : Spec) (labels : List ℕ) (policy : List Edge) (inside : ℕ → Bool) (stays : Stays spec labels policy)
    (closed : IsClosed policy inside) where
  pub peer_too : (s r : State) (t u j e d : ℕ) (cap : Cap) → Reached spec s → Alike (in_set labels inside) s r
      → in_set labels inside e ≡ true → Peer spec s t u j e d cap → Peer spec r t u j e d cap
  peer_too s r t u j e d cap reached alike here peer = record {
    other = peer.other;
    acts = acts_too (in_set labels inside) s r alike u d
        (sym (side_peer spec labels policy inside stays closed s reached t u j e d cap peer) ∙ here) peer.acts;
    own = own_too (in_set labels inside) s r alike (is_at spec kinds.Endpoint) d j cap
        (sym (side_listener spec labels policy inside stays closed s reached t u j e d cap peer) ∙ here) peer.own;
    reads = peer.reads;
    same = peer.same;
  }

  both_replied : (s r : State) (t caller : ℕ) → Alike (in_set labels inside) s r → in_set labels inside t ≡ true
      → in_set labels inside caller ≡ true → Alike (in_set labels inside) (replied s t caller) (replied r t caller)
  both_replied s r t caller alike here there =
      both_waiting (in_set labels inside) (record s { threads = with_pending s.threads t None })
      (record r { threads = with_pending r.threads t None })
      (both_pending (in_set labels inside) s r alike t None here) caller false there

  both_released : (s r : State) (c i caller : ℕ) → Alike (in_set labels inside) s r → in_set labels inside c ≡ true
      → in_set labels inside caller ≡ true → Alike (in_set labels inside) (released s c i caller) (released r c i caller)
  both_released s r c i caller alike here there = search (rules, both_waiting, in_set, dropped, both_without)

  both_called : (s r : State) (t u : ℕ) (grants : Bool) → Alike (in_set labels inside) s r → in_set labels inside t ≡ true
      → in_set labels inside u ≡ true → Alike (in_set labels inside) (called s t u grants) (called r t u grants)
  both_called s r t u grants alike here there =
      let p = Some (record { caller = t; grants = grants }) in
      both_waiting (in_set labels inside) (record s { threads = with_pending s.threads u p })
      (record r { threads = with_pending r.threads u p }) (both_pending (in_set labels inside) s r alike u p there) t true here

  module _ (s : State) (reached : Reached spec s) (r : State) (alike : Alike (in_set labels inside) s r) where
    pub own_step : (new : State) (step : Step) → in_set labels inside (thread_of step) ≡ true → StepTo spec s step new
        → Follows spec (in_set labels inside) r step new
    own_step new (steps.Take t i j rights) here (c, to, x, acts, own, there, e) =
        let root = sym (side_root spec labels policy inside stays closed s reached t c acts.root) ∙ here in
        let over = sym (side_own spec labels policy inside stays closed s reached c i kinds.CNode to Control refl refl own refl)
        ∙ root in
        record {
          end = added r c (lessened x rights);
          does = search (rules, acts_too, own_too, content_too);
          alike = rw e (both_grown _ s r alike c (Capability (lessened x rights)) root);
        }
    own_step new (steps.Put t i j rights) here (c, to, x, acts, own, there, e) =
        let root = sym (side_root spec labels policy inside stays closed s reached t c acts.root) ∙ here in
        let over = sym (side_own spec labels policy inside stays closed s reached c i kinds.CNode to Control refl refl own refl)
        ∙ root in
        record {
          end = added r to.object (lessened x rights);
          does = search (rules, acts_too, own_too, content_too);
          alike = rw e (both_grown _ s r alike to.object (Capability (lessened x rights)) over);
        }
    own_step new (steps.Grant t i u j k rights) here (c, to, x, d, from, acts, own, may, there, peer, e) =
        let root = sym (side_root spec labels policy inside stays closed s reached t c acts.root) ∙ here in
        let over = sym (side_sender spec labels policy inside stays closed s reached c i to _ own may) ∙ root in
        let far = sym (side_listener spec labels policy inside stays closed s reached t u j to.object d from peer) ∙ over in
        record {
          end = added r d (lessened x rights);
          does = (
            c,
            to,
            x,
            d,
            from,
            acts_too _ s r alike t c here acts,
            own_too _ s r alike _ c i to root own,
            may,
            content_too _ s r alike c k _ root there,
            peer_too s r t u j to.object d from reached alike over peer,
            refl,
          );
          alike = rw e (both_grown _ s r alike d (Capability (lessened x rights)) far);
        }
    own_step new (steps.Call t i u j) here (c, to, d, from, acts, own, may, peer, e) =
        let root = sym (side_root spec labels policy inside stays closed s reached t c acts.root) ∙ here in
        let over = sym (side_sender spec labels policy inside stays closed s reached c i to _ own may) ∙ root in
        let far = sym (side_peer spec labels policy inside stays closed s reached t u j to.object d from peer) ∙ over in
        record {
          end = called r t u from.rights.grant;
          does = (
            c,
            to,
            d,
            from,
            acts_too _ s r alike t c here acts,
            own_too _ s r alike _ c i to root own,
            may,
            peer_too s r t u j to.object d from reached alike over peer,
            refl,
          );
          alike = rw e (both_called s r t u from.rights.grant alike here far);
        }
    own_step new (steps.Reply t None) here (c, p, acts, owes, e) =
        let far = sym (side_owes spec labels policy inside stays closed s reached t p owes) ∙ here in
        record {
          end = replied r t p.caller;
          does = (c, p, acts_too _ s r alike t c here acts, owes_too _ s r alike t p here owes, refl);
          alike = rw e (both_replied s r t p.caller alike here far);
        }
    own_step new (steps.Reply t (Some copy)) here (c, p, x, d, acts, owes, grants, there, root, e) =
        let near = sym (side_root spec labels policy inside stays closed s reached t c acts.root) ∙ here in
        let far = sym (side_owes spec labels policy inside stays closed s reached t p owes) ∙ here in
        let beyond = sym (side_root spec labels policy inside stays closed s reached p.caller d root) ∙ far in
        record {
          end = added (replied r t p.caller) d (lessened x copy.1);
          does = search (rules, acts_too, owes_too, content_too, root_too);
          alike = rw e (both_grown _ (replied s t p.caller) (replied r t p.caller) (both_replied s r t p.caller alike here far) d
              (Capability (lessened x copy.1)) beyond);
        }
    own_step new (steps.SetCspace t i j) here (c, to, x, acts, own, of, e) =
        let root = sym (side_root spec labels policy inside stays closed s reached t c acts.root) ∙ here in
        let over = sym (side_own spec labels policy inside stays closed s reached c i kinds.Thread to Control refl refl own refl)
        ∙ root in
        record {
          end = record r { threads = with_root r.threads to.object x.object };
          does = search (rules, acts_too, own_too);
          alike = rw e (both_root _ s r alike to.object x.object over);
        }
    own_step new (steps.SetVspace t i j) here (c, to, x, acts, own, of, e) =
        let root = sym (side_root spec labels policy inside stays closed s reached t c acts.root) ∙ here in
        let over = sym (side_own spec labels policy inside stays closed s reached c i kinds.Thread to Control refl refl own refl)
        ∙ root in
        record {
          end = record r { threads = with_space r.threads to.object x.object };
          does = search (rules, acts_too, own_too);
          alike = rw e (both_space _ s r alike to.object x.object over);
        }
    own_step new (steps.Map t i j rights) here (c, frame, x, acts, own, of, e) =
        let root = sym (side_root spec labels policy inside stays closed s reached t c acts.root) ∙ here in
        let m : Mapped = record {
          space = x.object;
          frame = frame.object;
          rights = both_rights frame.rights (read_write rights);
        } in
        record {
          end = record r { mapped = r.mapped ++ m ∷ [] };
          does = search (rules, acts_too, own_too);
          alike = rw e (both_mapped _ s r alike m);
        }
    own_step new (steps.Bind t i j) here (c, irq, x, acts, own, of, writes, e) =
        let root = sym (side_root spec labels policy inside stays closed s reached t c acts.root) ∙ here in
        search (rules, set, acts_too, own_too, both_irqs)
    own_step new (steps.Drop t i) here (c, x, acts, there, e) =
        let root = sym (side_root spec labels policy inside stays closed s reached t c acts.root) ∙ here in
        record {
          end = dropped r c i;
          does = (c, x, acts_too _ s r alike t c here acts, content_too _ s r alike c i _ root there, refl);
          alike = rw e (both_without _ s r alike c i root);
        }
    own_step new (steps.Save t) here (c, p, acts, owes, e) =
        let root = sym (side_root spec labels policy inside stays closed s reached t c acts.root) ∙ here in
        record {
          end = saved r t c p;
          does = (c, p, acts_too _ s r alike t c here acts, owes_too _ s r alike t p here owes, refl);
          alike = search (rules, both_pending, grown_at, both_grown);
        }
    own_step new (steps.ReplyTo t i None) here (c, p, acts, there, e) =
        let root = sym (side_root spec labels policy inside stays closed s reached t c acts.root) ∙ here in
        let far = sym (side_saved spec labels policy inside stays closed s reached c i p there) ∙ root in
        record {
          end = released r c i p.caller;
          does = (c, p, acts_too _ s r alike t c here acts, content_too _ s r alike c i _ root there, refl);
          alike = rw e (both_released s r c i p.caller alike root far);
        }
    own_step new (steps.ReplyTo t i (Some copy)) here (c, p, x, d, acts, there, grants, has, back, e) =
        let root = sym (side_root spec labels policy inside stays closed s reached t c acts.root) ∙ here in
        let far = sym (side_saved spec labels policy inside stays closed s reached c i p there) ∙ root in
        let beyond = sym (side_root spec labels policy inside stays closed s reached p.caller d back) ∙ far in
        record {
          end = released (added r d (lessened x copy.1)) c i p.caller;
          does = search (rules, acts_too, content_too, root_too);
          alike = rw e (both_released (added s d (lessened x copy.1)) (added r d (lessened x copy.1)) c i p.caller
              (both_grown _ s r alike d (Capability (lessened x copy.1)) beyond) root far);
        }
