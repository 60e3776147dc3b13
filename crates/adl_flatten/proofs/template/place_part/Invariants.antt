use Rattle.adl_flatten.proofs.TemplateCommon.{drop, map, moved_leaf, ◌++◌, ◌≡◌}
use Rattle.adl_flatten.proofs.template.place_part.Given as goal

abbrev pub invariant-loop-leaf : goal.invariant-loop-leaf
invariant-loop-leaf l = l.leaves.items ++ map (moved_leaf l.part) (drop l.leaf-index l.leaf-items) ≡ l.fn.leaves.items
    ++ map (moved_leaf l.part) l.leaf-items
