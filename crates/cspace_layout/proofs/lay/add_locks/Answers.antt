use Rattle.cspace_layout.proofs.Common.{gather_turn, lock_uses, refl}
use Rattle.cspace_layout.proofs.lay.add_locks.Goals as goal

pub loop-place-preserved : goal.loop-place-preserved
loop-place-preserved c =
    gather_turn (λ m member. lock_uses c.args.leaf m member) c.args.members.now _ c.loop-place.place _ c.args.uses.now _ _ refl
    c.loop-place-test.true
    c.index-members-place.is c.loop-place.invariant c.in_ok-add_lock.ensures
