-- An act by an object that is not of the set changes no object of the set.
use Rattle.std.proofs.Common.{rules}
use Rattle.flow_model.proofs.LawsCommon.{Act, ActTo, AsyncSend, Attempt, AttemptTo, Bool, Edge, IsClosed, List, Reached, Receive, Sight, Spec, Stays, SyncSend, World, [], actor, allowed, answer, await, denied, device, done, false, fire, in_set, inr, load}
use Rattle.flow_model.proofs.LawsCommon.{maker, message, more, of_irq, own_edge, put, refl, refused, send, signal, step, store, sym, tell, tell_saved, thread_of, ℕ, ◌∙◌, ◌∷◌, ◌≡◌}
use Rattle.cap_model.specs.declared.kind.Kind.TheVariants as kinds
use Rattle.flow_model.proofs.Contents.{Near, put_other}
use Rattle.flow_model.proofs.Replying.{side_owes, side_saved}
use Rattle.flow_model.proofs.Sides.{from_set, side_root, side_own, side_peer, writes_from}
use Rattle.flow_model.proofs.OtherSteps.{not_from, other_step}

module _ (side : ℕ → Bool) (w v : World) (near : Near side w v) where
  other_contents : (f x : ℕ) → side f ≡ false → Near side (record w { contents = put w.contents f x }) v
  other_contents f x out = search (rules, put_other)

  other_pending : (n : ℕ) (xs : List ℕ) → side n ≡ false → Near side (record w { pending = put w.pending n xs }) v
  other_pending n xs out = search (rules, put_other)

  other_seen : (t : ℕ) (x : Sight) → side t ≡ false → Near side (record w { seen = more w.seen t x }) v
  other_seen t x out = search (rules, put_other)

module _ (spec : Spec) (labels : List ℕ) (policy : List Edge) (inside : ℕ → Bool) (stays : Stays spec labels policy)
    (closed : IsClosed policy inside) where
  module _ (w v new : World) (reached : Reached spec w.state) (near : Near (in_set labels inside) w v) where
    other_attempt : (attempt : Attempt) → in_set labels inside (maker attempt) ≡ false → AttemptTo spec w attempt new
        → Near (in_set labels inside) new v
    other_attempt (step move) out (s, does, e) =
        let moved : Near (in_set labels inside) (record w { state = s }) v = record {
          state = other_step spec labels policy inside stays closed w.state v.state s move reached near.state out does;
          contents = near.contents;
          pending = near.pending;
          seen = near.seen;
        } in
        rw e (other_seen (in_set labels inside) (record w { state = s }) v moved (thread_of move) done out)
    other_attempt (store t f x) out (runs, may, e) =
        let away = not_from (in_set labels inside t) (in_set labels inside f) (writes_from spec labels policy inside stays closed
        w.state reached t f may) out in
        rw e (other_seen (in_set labels inside) (record w { contents = put w.contents f x }) v
        (other_contents (in_set labels inside) w v near f x away) t done out)
    other_attempt (load t f) out (runs, may, e) = rw e (other_seen (in_set labels inside) w v near t _ out)
    other_attempt (send t i u j x) out (c, to, d, from, acts, own, may, peer, e) =
        let root = side_root spec labels policy inside stays closed w.state reached t c acts.root in
        let over = side_own spec labels policy inside stays closed w.state reached c i kinds.Endpoint to SyncSend refl
        refl own may in
        let way = side_peer spec labels policy inside stays closed w.state reached t u j to.object d from peer in
        rw e (other_seen (in_set labels inside) (record w { seen = more w.seen u (message to.badge x) }) v
        (other_seen (in_set labels inside) w v near u (message to.badge x) (sym way ∙ sym over ∙ sym root ∙ out)) t done out)
    other_attempt (tell t x) out (c, reply, acts, owes, e) =
        rw e (other_seen (in_set labels inside) (record w { seen = more w.seen reply.caller (answer x) }) v
        (other_seen (in_set labels inside) w v near reply.caller (answer x)
        (sym (side_owes spec labels policy inside stays closed w.state reached t reply owes) ∙ out)) t done out)
    other_attempt (tell_saved t i x) out (c, reply, acts, there, e) =
        let root = side_root spec labels policy inside stays closed w.state reached t c acts.root in
        rw e (other_seen (in_set labels inside) (record w { seen = more w.seen reply.caller (answer x) }) v
        (other_seen (in_set labels inside) w v near reply.caller (answer x)
        (sym (side_saved spec labels policy inside stays closed w.state reached c i reply there) ∙ sym root ∙ out)) t done
        out)
    other_attempt (signal t i x) out (c, to, acts, own, may, e) =
        let root = side_root spec labels policy inside stays closed w.state reached t c acts.root in
        let held = own_edge spec labels w.state c i kinds.Notification to AsyncSend own may in
        let away = not_from (in_set labels inside c) (in_set labels inside to.object) (from_set spec labels policy inside stays
        closed w.state reached AsyncSend c to.object refl held) (sym root ∙ out) in
        rw e (other_seen (in_set labels inside) (record w { pending = more w.pending to.object x }) v
        (other_pending (in_set labels inside) w v near to.object _ away) t done out)
    other_attempt (await t i) out (c, from, acts, own, may, e) =
        let root = side_root spec labels policy inside stays closed w.state reached t c acts.root in
        let over = side_own spec labels policy inside stays closed w.state reached c i kinds.Notification from Receive refl
        refl own may in
        rw e (other_seen (in_set labels inside) (record w { pending = put w.pending from.object [] }) v
        (other_pending (in_set labels inside) w v near from.object [] (sym over ∙ sym root ∙ out)) t _ out)

    pub other_act : (act : Act) → in_set labels inside (actor act) ≡ false → ActTo spec w act new
        → Near (in_set labels inside) new v
    other_act (allowed attempt) out does = other_attempt attempt out does
    other_act (refused attempt) out (runs, never, e) =
        rw e (other_seen (in_set labels inside) w v near (maker attempt) denied out)
    other_act (fire d x) out (n, bound, e) =
        let edge = from_set spec labels policy inside stays closed w.state reached AsyncSend d n refl
        (inr (of_irq (d, n, bound, refl, refl, refl))) in
        rw e (other_pending (in_set labels inside) w v near n _
        (not_from (in_set labels inside d) (in_set labels inside n) edge out))
    other_act (device f x) out (is, e) = rw e (other_contents (in_set labels inside) w v near f x out)
