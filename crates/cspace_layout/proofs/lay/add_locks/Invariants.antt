use Rattle.cspace_layout.proofs.Common.{gather, lock_uses, take, ◌++◌, ◌≡◌}
use Rattle.cspace_layout.proofs.lay.add_locks.Given as goal

abbrev pub invariant-loop-place : goal.invariant-loop-place
invariant-loop-place l = l.uses ≡ l.fn.uses ++ gather (λ m member. lock_uses l.leaf m member) (take l.place l.members)
