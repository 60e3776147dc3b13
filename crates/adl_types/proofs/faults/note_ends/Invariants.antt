use Rattle.adl_types.proofs.Common.{drop, flat_map, led_faults, noted, ◌≡◌}
use Rattle.adl_types.proofs.faults.note_ends.Given as goal

abbrev pub invariant-loop-end : goal.invariant-loop-end
invariant-loop-end l =
    let faults = led_faults l.program l.connector l.model in
    noted l.first (flat_map faults (drop l.end-index l.ends)) ≡ noted l.fn.first (flat_map faults l.ends)
