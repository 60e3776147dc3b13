use Rattle.adl_items.proofs.Common.{as_component, drop, filter_map, located, map, ◌++◌, ◌≡◌}
use Rattle.adl_items.proofs.located.components.Given as goal

abbrev pub invariant-loop-x : goal.invariant-loop-x
invariant-loop-x l = map located l.found.items ++ filter_map as_component (map located (drop l.x-index l.items)) ≡ filter_map
    as_component (map located l.items)
