use Rattle.adl_items.proofs.Common.{as_assembly, drop, filter_map, located, map, ◌++◌, ◌≡◌}
use Rattle.adl_items.proofs.located.assemblies.Given as goal

abbrev pub invariant-loop-x : goal.invariant-loop-x
invariant-loop-x l = map located l.found.items ++ filter_map as_assembly (map located (drop l.x-index l.items)) ≡ filter_map
    as_assembly (map located l.items)
