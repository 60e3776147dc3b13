use Rattle.arch_policy.proofs.Common.{drop, gather, ◌++◌, ◌≡◌}
use Rattle.arch_policy.specs.Triples.{given_with}
use Rattle.arch_policy.proofs.edges.push_given_to_each.Given as goal

abbrev pub invariant-loop-to : goal.invariant-loop-to
invariant-loop-to l = l.edges ++ gather (λ i m. given_with l.setting l.row l.from m) (drop l.to-index l.targets)
    ≡ l.fn.edges ++ gather (λ i m. given_with l.setting l.row l.from m) l.targets
