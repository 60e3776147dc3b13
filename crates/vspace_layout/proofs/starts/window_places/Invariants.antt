use Rattle.vspace_layout.proofs.Common.{EndAt, [], gather, take, window_place, ◌+◌, ◌∷◌, ◌≡◌}
use Rattle.vspace_layout.proofs.starts.window_places.Given as goal

abbrev pub invariant-loop-number : goal.invariant-loop-number
invariant-loop-number l = l.places ≡ gather (λ j (e : EndAt). window_place l.wiring.flat l.wiring.settled l.starts
    (l.first + j) e ∷ []) (take l.number l.windows)
