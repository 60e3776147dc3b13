-- An act by an object of the set looks only at objects of the set, so it can be done in a world that is alike there, and
-- leads to worlds that are alike there.
use Rattle.std.proofs.Common.{rules}
use Rattle.flow_model.proofs.LawsCommon.{Access, Act, ActTo, Attempt, AttemptTo, Authority, Bool, Edge, IsClosed, List, Reached, Read, Receive, Sight, Spec, Stays, SyncSend, World, Write, [], actor, allowed, answer, ap, await, content, denied, device}
use Rattle.flow_model.proofs.LawsCommon.{done, false, fire, in_set, inl, inr, load, maker, message, more, put, refl, refused, send, signal, signals, step, store, sym, tell, tell_saved, thread_of, true, ℕ, ◌∙◌, ◌≡◌}
use Rattle.cap_model.specs.declared.kind.Kind.TheVariants as kinds
use Rattle.flow_model.proofs.Alike.{waits_too, space_too, owes_too, acts_too, content_too, own_too, irq_too, mapped_too}
use Rattle.flow_model.proofs.Contents.{Near, near_back, put_both, more_both}
use Rattle.flow_model.proofs.Sides.{side_root, side_space, side_own, reads_of}
use Rattle.flow_model.proofs.OwnSteps.{own_step, peer_too}

-- the attempt can be made in v too, and leads to a world that is alike
record Succeeds (spec : Spec) (side : ℕ → Bool) (v : World) (attempt : Attempt) (new : World) : Type 0 where
  end : World
  does : AttemptTo spec v attempt end
  near : Near side new end

-- and so can an act
pub record Goes (spec : Spec) (side : ℕ → Bool) (v : World) (act : Act) (new : World) : Type 0 where
  pub end : World
  pub does : ActTo spec v act end
  pub near : Near side new end

module _ (side : ℕ → Bool) (w v : World) (near : Near side w v) where
  both_contents : (f x : ℕ) → Near side (record w { contents = put w.contents f x }) (record v { contents = put v.contents f x })
  both_contents f x = search (rules, put_both)

  both_put : (n : ℕ) (xs : List ℕ)
      → Near side (record w { pending = put w.pending n xs }) (record v { pending = put v.pending n xs })
  both_put n xs = search (rules, put_both)

  both_pending : (n x : ℕ) → Near side (record w { pending = more w.pending n x }) (record v { pending = more v.pending n x })
  both_pending n x = search (rules, more_both)

  both_seen : (t : ℕ) (x y : Sight) → x ≡ y
      → Near side (record w { seen = more w.seen t x }) (record v { seen = more v.seen t y })
  both_seen t x y same = search (rules, more, more_both)

module _ (spec : Spec) (labels : List ℕ) (policy : List Edge) (inside : ℕ → Bool) (stays : Stays spec labels policy)
    (closed : IsClosed policy inside) where
  module _ (w v : World) (reached : Reached spec w.state) (near : Near (in_set labels inside) w v) where
    table_too : (t f : ℕ) (a : Authority) → in_set labels inside t ≡ true → Access spec w.state t a f → Access spec v.state t a f
    table_too t f a here (inl by) = search (rules, space_too)
    table_too t f a here (inr (inl by)) = inr (inl (record {
      root = by.root;
      rights = by.rights;
      space = space_too _ w.state v.state near.state t _ here by.space;
      there = mapped_too _ w.state v.state near.state _
          (sym (side_space spec labels policy inside stays closed w.state reached t by.root by.space) ∙ here) by.there;
      gives = by.gives;
    }))
    table_too t f a here (inr (inr by)) = inr (inr by)

  own_attempt : (attempt : Attempt) (w v new : World) → Reached spec w.state → Near (in_set labels inside) w v
      → in_set labels inside (maker attempt) ≡ true → AttemptTo spec w attempt new
      → Succeeds spec (in_set labels inside) v attempt new
  own_attempt (step move) w v new reached near here (s, does, e) =
      let follows = own_step spec labels policy inside stays closed w.state reached v.state near.state s move here does in
      let moved : Near (in_set labels inside) (record w { state = s }) (record v { state = follows.end }) = record {
        state = follows.alike;
        contents = near.contents;
        pending = near.pending;
        seen = near.seen;
      } in
      record {
        end = record v { state = follows.end; seen = more v.seen (thread_of move) done };
        does = (follows.end, follows.does, refl);
        near = rw e (both_seen _ (record w { state = s }) (record v { state = follows.end }) moved (thread_of move)
            done done refl);
      }
  own_attempt (store t f x) w v new reached near here (runs, may, e) = record {
    end = record v { contents = put v.contents f x; seen = more v.seen t done };
    does = (waits_too _ w.state v.state near.state t false here runs, table_too w v reached near t f Write here may, refl);
    near = rw e (both_seen _ (record w { contents = put w.contents f x }) (record v { contents = put v.contents f x })
        (both_contents _ w v near f x) t done done refl);
  }
  own_attempt (load t f) w v new reached near here (runs, may, e) = record {
    end = record v { seen = more v.seen t (content (v.contents f)) };
    does = (waits_too _ w.state v.state near.state t false here runs, table_too w v reached near t f Read here may, refl);
    near =
        rw e
        (both_seen _ w v near t _ _
        (ap (λ (x : ℕ). content x) (near.contents f (reads_of spec labels policy inside stays closed w.state reached t f
        may here))));
  }
  own_attempt (send t i u j x) w v new reached near here (c, to, d, from, acts, own, may, peer, e) =
      let root = sym (side_root spec labels policy inside stays closed w.state reached t c acts.root) ∙ here in
      let over = sym (side_own spec labels policy inside stays closed w.state reached c i kinds.Endpoint to SyncSend refl refl own
      may) ∙ root in
      record {
        end = record v { seen = more (more v.seen u (message to.badge x)) t done };
        does = (
          c,
          to,
          d,
          from,
          acts_too _ w.state v.state near.state t c here acts,
          own_too _ w.state v.state near.state _ c i to root own,
          may,
          peer_too spec labels policy inside stays closed w.state v.state t u j to.object d from reached near.state over peer,
          refl,
        );
        near = search (rules, both_seen, more, message, done);
      }
  own_attempt (tell t x) w v new reached near here (c, reply, acts, owes, e) = record {
    end = record v { seen = more (more v.seen reply.caller (answer x)) t done };
    does = search (rules, acts_too, owes_too);
    near = search (rules, both_seen, more, answer, done);
  }
  own_attempt (tell_saved t i x) w v new reached near here (c, reply, acts, there, e) =
      let root = sym (side_root spec labels policy inside stays closed w.state reached t c acts.root) ∙ here in
      record {
        end = record v { seen = more (more v.seen reply.caller (answer x)) t done };
        does = search (rules, acts_too, content_too);
        near = search (rules, both_seen, more, answer, done);
      }
  own_attempt (signal t i x) w v new reached near here (c, to, acts, own, may, e) =
      let root = sym (side_root spec labels policy inside stays closed w.state reached t c acts.root) ∙ here in
      record {
        end = record v { pending = more v.pending to.object x; seen = more v.seen t done };
        does = search (rules, acts_too, own_too);
        near = search (rules, both_seen, more, both_pending, done);
      }
  own_attempt (await t i) w v new reached near here (c, from, acts, own, may, e) =
      let root = sym (side_root spec labels policy inside stays closed w.state reached t c acts.root) ∙ here in
      let over = sym (side_own spec labels policy inside stays closed w.state reached c i kinds.Notification from Receive refl
      refl own may) ∙ root in
      record {
        end = record v { pending = put v.pending from.object []; seen = more v.seen t (signals (v.pending from.object)) };
        does = search (rules, acts_too, own_too);
        near = search (rules, both_seen, put, both_put, signals);
      }

  pub own_act : (act : Act) (w v new : World) → Reached spec w.state → Reached spec v.state → Near (in_set labels inside) w v
      → in_set labels inside (actor act) ≡ true → ActTo spec w act new → Goes spec (in_set labels inside) v act new
  own_act (allowed attempt) w v new reached onward near here does =
      let goes = own_attempt attempt w v new reached near here does in
      record { end = goes.end; does = goes.does; near = goes.near }
  own_act (refused attempt) w v new reached onward near here (runs, never, e) = record {
    end = record v { seen = more v.seen (maker attempt) denied };
    does = (
      waits_too _ w.state v.state near.state (maker attempt) false here runs,
      λ end does. (let back = own_attempt attempt v w end onward (near_back (in_set labels inside) w v near) here does in
          never back.end back.does),
      refl,
    );
    near = rw e (both_seen _ w v near (maker attempt) denied denied refl);
  }
  own_act (fire d x) w v new reached onward near here (n, bound, e) = record {
    end = record v { pending = more v.pending n x };
    does = (n, irq_too _ w.state v.state near.state d _ here bound, refl);
    near = rw e (both_pending _ w v near n x);
  }
  own_act (device f x) w v new reached onward near here (is, e) = search (rules, put, both_contents)
