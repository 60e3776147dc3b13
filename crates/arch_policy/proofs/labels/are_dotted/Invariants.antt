use Rattle.arch_policy.proofs.Common.{drop, flat_map, ◌∷◌, ◌≡◌}
use Rattle.arch_policy.proofs.labels.are_dotted.Given as goal

abbrev pub invariant-loop-name : goal.invariant-loop-name
invariant-loop-name l =
    l.left ≡ flat_map (λ m. 46 ∷ m) (drop l.name-index l.names) → l.text ≡ flat_map (λ m. 46 ∷ m) l.names
