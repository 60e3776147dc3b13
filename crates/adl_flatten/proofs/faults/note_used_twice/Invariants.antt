use Rattle.adl_flatten.proofs.Common.{drop, flat_map, noted, used_twice, ◌≡◌}
use Rattle.adl_flatten.proofs.faults.note_used_twice.Given as goal

abbrev pub invariant-loop-end : goal.invariant-loop-end
invariant-loop-end l = noted l.first (flat_map (used_twice l.ends) (drop l.end-index l.end-items)) ≡ noted l.fn.first
    (flat_map (used_twice l.ends) l.end-items)
