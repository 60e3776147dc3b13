use Rattle.system_spec.proofs.Common.{OfEnd, gather_turn, get_or, get_or_default, lock, refl}
use Rattle.system_spec.proofs.listing.push_locks.Goals as goal

pub loop-place-preserved : goal.loop-place-preserved
loop-place-preserved c =
    gather_turn (lock c.args.domain) c.args.uses.now _ c.loop-place.place (get_or c.args.uses.now c.loop-place.place (OfEnd 0 0))
    c.args.items.now _ _ refl
    c.loop-place-test.true (get_or_default _ _ _ _ c.loop-place-test.true) c.loop-place.invariant c.in_ok-push_lock.ensures
