use Rattle.vspace_layout.proofs.Common.{ThreadOf, [], gather, take, thread_at, ◌∷◌, ◌≡◌}
use Rattle.vspace_layout.proofs.starts.thread_places.Given as goal

abbrev pub invariant-loop-number : goal.invariant-loop-number
invariant-loop-number l = l.places ≡ gather (λ i (x : ThreadOf). thread_at l.wiring.settled l.starts i x ∷ [])
    (take l.number l.threads)
