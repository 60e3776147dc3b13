use Rattle.adl_names.proofs.Common.{as_composition, drop, duplicates_in_composition, filter_map, flat_map, noted, ◌++◌, ◌≡◌}
use Rattle.adl_names.proofs.tables.holdings.Given as goal

abbrev pub invariant-loop-member : goal.invariant-loop-member
invariant-loop-member l = record {
  noted : noted l.first (flat_map duplicates_in_composition (filter_map as_composition (drop l.member-index l.member-items)))
      ≡ noted l.fn.first (flat_map duplicates_in_composition (filter_map as_composition l.member-items));
  holdings : l.holdings.items ++ filter_map as_composition (drop l.member-index l.member-items) ≡ filter_map as_composition
      l.member-items;
}
