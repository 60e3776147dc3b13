use Rattle.system_spec.proofs.Common.{[], before, gather, length, mark, take, ◌+◌, ◌∷◌, ◌≡◌}
use Rattle.system_spec.proofs.places.places_from.Given as goal

abbrev pub invariant-loop-connection : goal.invariant-loop-connection
invariant-loop-connection l = record {
  so_far : l.places ≡ gather (λ k c. (l.first + before (mark l.standing) l.connections k) ∷ [])
      (take l.connection-index l.connections);
  next : l.next ≡ l.first + length (gather (mark l.standing) (take l.connection-index l.connections));
}
