use Rattle.adl_types.proofs.Common.{drop, flat_map, noted, size_faults, ◌≡◌}
use Rattle.adl_types.proofs.faults.note_sizes.Given as goal

abbrev pub invariant-loop-member : goal.invariant-loop-member
invariant-loop-member l = noted l.first (flat_map size_faults (drop l.member-index l.member-items)) ≡ noted l.fn.first
    (flat_map size_faults l.member-items)
