use Rattle.arch_policy.proofs.Common.{[], gather, joined, rank, take, ◌∷◌, ◌≡◌}
use Rattle.arch_policy.proofs.labels.device_numbers.Given as goal

abbrev pub invariant-loop-leaf : goal.invariant-loop-leaf
invariant-loop-leaf l = l.numbers ≡ gather (λ d x. rank l.texts (joined x.path) ∷ []) (take l.leaf-index l.leaves)
