use Rattle.system_spec.proofs.Common.{Domain, LockOf, [], ap, arith, length, place, told, ◌++◌, ◌+◌, ◌∙◌, ◌∷◌}
use Rattle.system_spec.proofs.Domains.{lock_place, locks_turn, locks_within}
use Rattle.system_spec.proofs.Turning.{place_turn}
use Rattle.system_spec.proofs.landmarks.first_locks.Goals as goal

pub lock_count-next-requires : goal.lock_count-next-requires
lock_count-next-requires c = omega (arith, ap length c.uses_at.ensures, c.requires.buildable.few.uses c.loop-number.number)

pub overflow_add-next : goal.overflow_add-next
overflow_add-next c =
    let t = told c.args.tables.now in
    let d = c.loop-number.number in
    let more = locks_turn t d c.loop-number.next _ c.uses_at.result.now (omega arith) c.uses_at.ensures c.lock_count-next.ensures
    c.loop-number.invariant.next in
    omega (arith, more, locks_within t (d + 1) c.requires.buildable.few)

pub loop-number-preserved : goal.loop-number-preserved
loop-number-preserved c =
    let t = told c.args.tables.now in
    let d = c.loop-number.number in
    record {
      so_far = place_turn (λ n (x : Domain). place t (LockOf n 0) ∷ []) t.flat.domains d [] _ _ (omega arith)
          c.loop-number.invariant.so_far
          (λ x. c.in_ok-push.ensures.ok ∙ ap (λ z. c.loop-number.places ++ z ∷ [])
          (lock_place t d c.loop-number.next c.loop-number.invariant.next));
      next = locks_turn t d c.loop-number.next _ c.uses_at.result.now (omega arith) c.uses_at.ensures c.lock_count-next.ensures
          c.loop-number.invariant.next;
    }
