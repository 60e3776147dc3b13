use Rattle.arch_policy.proofs.Common.{map, ◌≡◌}
use Rattle.arch_policy.proofs.labels.in_order.Given as goal

abbrev pub invariant-loop-text : goal.invariant-loop-text
invariant-loop-text l = l.ordered.items ≡ map (λ p. p.0) l.yielded
