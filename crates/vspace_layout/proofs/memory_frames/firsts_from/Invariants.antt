use Rattle.vspace_layout.proofs.Common.{[], first_of, gather, take, ◌+◌, ◌∷◌, ◌≡◌}
use Rattle.vspace_layout.proofs.memory_frames.firsts_from.Given as goal

abbrev pub invariant-loop-number : goal.invariant-loop-number
invariant-loop-number l = l.firsts.items ≡ gather (λ k first. (l.own + first_of l.shared l.registered first k) ∷ [])
    (take l.number l.numbers)
