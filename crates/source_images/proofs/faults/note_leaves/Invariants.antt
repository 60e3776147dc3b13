use Rattle.source_images.proofs.Common.{drop, false, flat_map, get_or, leaf_faults, noted, ◌≡◌}
use Rattle.source_images.proofs.faults.note_leaves.Given as goal

abbrev pub invariant-loop-leaf : goal.invariant-loop-leaf
invariant-loop-leaf l =
    noted l.first (flat_map (leaf_faults l.flat l.images (λ m. get_or l.clashing m false)) (drop l.leaf-index l.leaves))
    ≡ noted l.fn.first (flat_map (leaf_faults l.flat l.images (λ m. get_or l.clashing m false)) l.leaves)
