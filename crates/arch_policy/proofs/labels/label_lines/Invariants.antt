use Rattle.arch_policy.proofs.Common.{[], gather, ◌∷◌, ◌≡◌}
use Rattle.arch_policy.proofs.labels.label_lines.Given as goal

abbrev pub invariant-loop-text : goal.invariant-loop-text
invariant-loop-text l = l.lines ≡ gather (λ n t. (n, t) ∷ []) l.yielded
