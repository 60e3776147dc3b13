use Rattle.system_spec.proofs.Common.{gather, lock, take, ◌++◌, ◌≡◌}
use Rattle.system_spec.proofs.listing.push_locks.Given as goal

abbrev pub invariant-loop-place : goal.invariant-loop-place
invariant-loop-place l = l.items ≡ l.fn.items ++ gather (lock l.domain) (take l.place l.uses)
