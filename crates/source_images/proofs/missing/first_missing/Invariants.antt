use Rattle.source_images.proofs.Common.{None, flat_map, missing_by, noted, take, type_number, ◌≡◌}
use Rattle.source_images.proofs.missing.first_missing.Given as goal

abbrev pub invariant-loop-leaf : goal.invariant-loop-leaf
invariant-loop-leaf l =
    l.first ≡ noted None (flat_map (λ leaf. missing_by l.readings leaf.place (type_number l.source l.fn.flat leaf))
    (take l.leaf-index l.leaf-items))
