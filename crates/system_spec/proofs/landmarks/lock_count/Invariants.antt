use Rattle.system_spec.proofs.Common.{gather, length, lock, take, ◌≡◌}
use Rattle.system_spec.proofs.landmarks.lock_count.Given as goal

abbrev pub invariant-loop-used : goal.invariant-loop-used
invariant-loop-used l = l.count ≡ length (gather (lock 0) (take l.used-index l.uses))
