use Rattle.system_spec.proofs.Common.{OfEnd, SlotUse, [], ap, arith, gather_turn, get_or, get_or_default, refl, slice_get-get_or, told, use_cap, use_cap_at, ◌++◌, ◌+◌, ◌∙◌, ◌∷◌}
use Rattle.system_spec.proofs.Placing.{lock_turn, lock_within}
use Rattle.system_spec.proofs.caps.caps_of.Goals as goal

pub use_cap-requires-clause-named : goal.use_cap-requires-clause-named
use_cap-requires-clause-named c = c.requires.named c.loop-n.n _ (slice_get-get_or c.args.uses.now c.loop-n.n (OfEnd 0 0)
    c.loop-n-test.true)

pub overflow_add-lock : goal.overflow_add-lock
overflow_add-lock c =
    let t = told c.args.tables.now in
    let uses = c.args.uses.now in
    let below = c.loop-n-test.true in
    let more = lock_turn t c.args.domain uses c.loop-n.n c.loop-n.lock _ (get_or uses c.loop-n.n (OfEnd 0 0)) c.requires.uses
    below (get_or_default _ _ _ _ below) c.lock_number.ensures c.loop-n.invariant.lock in
    omega (
      arith,
      c.requires.few,
      lock_within t c.args.domain uses (c.loop-n.n + 1) c.args.first_lock _ c.requires.uses
          c.requires.first more,
    )

pub loop-n-preserved : goal.loop-n-preserved
loop-n-preserved c =
    let t = told c.args.tables.now in
    let uses = c.args.uses.now in
    let n = c.loop-n.n in
    let u = get_or uses n (OfEnd 0 0) in
    let below = c.loop-n-test.true in
    record {
      so_far = gather_turn (λ k (v : SlotUse). (k + 1, use_cap t c.args.domain k v) ∷ []) uses uses n u [] _ _ refl below
          (get_or_default _ _ _ _ below) c.loop-n.invariant.so_far
          (c.in_ok-push.ensures.ok ∙ ap (λ z. c.loop-n.caps ++ (n + 1, z) ∷ []) (c.use_cap.ensures ∙ ap (λ z. use_cap_at t z u)
          c.loop-n.invariant.lock));
      lock = lock_turn t c.args.domain uses n c.loop-n.lock _ u c.requires.uses below (get_or_default _ _ _ _ below)
          c.lock_number.ensures c.loop-n.invariant.lock;
    }
