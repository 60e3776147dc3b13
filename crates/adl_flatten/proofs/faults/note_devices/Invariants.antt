use Rattle.adl_flatten.proofs.Common.{drop, flat_map, misplaced_leaf, noted, ◌≡◌}
use Rattle.adl_flatten.proofs.faults.note_devices.Given as goal

abbrev pub invariant-loop-leaf : goal.invariant-loop-leaf
invariant-loop-leaf l = noted l.first (flat_map (misplaced_leaf l.program) (drop l.leaf-index l.leaves)) ≡ noted l.fn.first
    (flat_map (misplaced_leaf l.program) l.leaves)
