use Rattle.adl_items.proofs.Common.{as_assembly, drop, filter_map, located, map, slice_get, ◌≡◌}
use Rattle.adl_items.proofs.located.first_assembly.Given as goal

abbrev pub invariant-loop-x : goal.invariant-loop-x
invariant-loop-x l = slice_get (filter_map as_assembly (map located (drop l.x-index l.items))) 0 ≡ slice_get
    (filter_map as_assembly (map located l.items)) 0
