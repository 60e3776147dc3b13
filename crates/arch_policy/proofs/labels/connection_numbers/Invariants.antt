use Rattle.arch_policy.proofs.Common.{[], gather, joined, rank, take, ◌∷◌, ◌≡◌}
use Rattle.arch_policy.proofs.labels.connection_numbers.Given as goal

abbrev pub invariant-loop-connection : goal.invariant-loop-connection
invariant-loop-connection l = l.numbers ≡ gather (λ d x. rank l.texts (joined x.path) ∷ [])
    (take l.connection-index l.connections)
