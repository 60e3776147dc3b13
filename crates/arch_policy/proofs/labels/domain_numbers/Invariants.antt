use Rattle.arch_policy.proofs.Common.{[], gather, joined, rank, take, ◌∷◌, ◌≡◌}
use Rattle.arch_policy.proofs.labels.domain_numbers.Given as goal

abbrev pub invariant-loop-domain : goal.invariant-loop-domain
invariant-loop-domain l = l.numbers ≡ gather (λ d x. rank l.texts (joined x.path) ∷ []) (take l.domain-index l.domains)
