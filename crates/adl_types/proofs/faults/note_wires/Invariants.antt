use Rattle.adl_types.proofs.Common.{body, drop, flat_map, led_wire_faults, noted, wire_faults, wires_of, ◌≡◌}
use Rattle.adl_types.proofs.faults.note_wires.Given as goal

abbrev pub invariant-loop-wire : goal.invariant-loop-wire
invariant-loop-wire l = noted l.first (flat_map (led_wire_faults l.program) (drop l.wire-index l.wire-items)) ≡ noted l.fn.first
    (flat_map (wire_faults l.program l.number) (wires_of (body l.program l.number)))
