use Rattle.system_spec.proofs.Common.{Domain, LockOf, [], domain_locks, first_of, gather, length, place, take, told, ◌+◌, ◌∷◌, ◌≡◌}
use Rattle.system_spec.proofs.landmarks.first_locks.Given as goal

abbrev pub invariant-loop-number : goal.invariant-loop-number
invariant-loop-number l = record {
  so_far : l.places ≡ gather (λ d (x : Domain). place (told l.tables) (LockOf d 0) ∷ [])
      (take l.number l.tables.flat.now.domains);
  next : l.next ≡ first_of (told l.tables) 4 + length
      (gather (domain_locks (told l.tables)) (take l.number l.tables.flat.now.domains));
}
