use Rattle.adl_names.proofs.Common.{drop, enumerate_from, flat_map, found, noted, pointed, recursive_in, recursive_instance, recursive_types, trees, ◌++◌, ◌+◌, ◌≡◌}
use Rattle.adl_names.proofs.recursion.note_recursive.Given as goal

abbrev pub invariant-loop-i : goal.invariant-loop-i
invariant-loop-i l =
    noted l.first (flat_map (λ x. recursive_in (found l.numbers) l.cycles x.0 x.1)
    (enumerate_from l.i (trees (drop l.i l.components)))) ≡ noted l.fn.first (recursive_types l.items)

abbrev pub invariant-loop-instance : goal.invariant-loop-instance
invariant-loop-instance l =
    noted l.first (flat_map (recursive_instance (found l.numbers) l.cycles l.i) (pointed (drop l.instance-index l.instance-items))
    ++ flat_map (λ x. recursive_in (found l.numbers) l.cycles x.0 x.1)
    (enumerate_from (l.i + 1) (trees (drop (l.i + 1) l.components))))
    ≡ noted l.fn.first (recursive_types l.items)
