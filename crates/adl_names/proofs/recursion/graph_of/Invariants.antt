use Rattle.adl_names.proofs.Common.{drop, filter_map, found, graph_of, pointed, trees, ◌++◌, ◌+◌, ◌∷◌, ◌≡◌}
use Rattle.adl_names.proofs.recursion.graph_of.Given as goal

abbrev pub invariant-loop-x : goal.invariant-loop-x
invariant-loop-x l =
    l.graph ++ graph_of (found l.numbers) (trees (drop l.x-index l.components)) ≡ graph_of (found l.numbers) (trees l.components)

abbrev pub invariant-loop-instance : goal.invariant-loop-instance
invariant-loop-instance l =
    (l.types ++ filter_map (λ i. found l.numbers i.component.name) (pointed (drop l.instance-index l.instance-items)))
    ∷ graph_of (found l.numbers) (trees (drop (l.x-index + 1) l.components)) ≡ graph_of (found l.numbers)
    (trees (drop l.x-index l.components))
