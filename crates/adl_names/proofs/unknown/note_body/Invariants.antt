use Rattle.adl_names.proofs.Common.{as_composition, drop, filter_map, flat_map, is_procedure, known_in, known_of, noted, unknown_in_member, ◌≡◌}
use Rattle.adl_names.proofs.unknown.note_body.Given as goal

abbrev pub invariant-loop-member : goal.invariant-loop-member
invariant-loop-member l = record {
  rest : l.holdings ≡ filter_map as_composition (drop l.member-index l.member-items);
  faults : noted l.first (flat_map (unknown_in_member (known_in l.tables) (is_procedure l.tables) (known_of l.table))
      (drop l.member-index l.member-items))
      ≡ noted l.fn.first (flat_map (unknown_in_member (known_in l.tables) (is_procedure l.tables) (known_of l.table))
      l.member-items);
}
