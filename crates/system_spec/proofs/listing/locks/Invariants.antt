use Rattle.system_spec.proofs.Common.{domain_locks, gather, take, told, ◌≡◌}
use Rattle.system_spec.proofs.listing.locks.Given as goal

abbrev pub invariant-loop-number : goal.invariant-loop-number
invariant-loop-number l = l.items ≡ gather (domain_locks (told l.tables)) (take l.number l.tables.flat.now.domains)
