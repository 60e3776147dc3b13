use Rattle.adl_program.proofs.Common.{as_connection, drop, filter_map, led_wire, map, wire_of, ◌++◌, ◌≡◌}
use Rattle.adl_program.proofs.wires.led_wires.Given as goal

abbrev pub invariant-loop-line : goal.invariant-loop-line
invariant-loop-line l =
    l.wires
    ++ map (led_wire l.bodies l.number) (filter_map wire_of (filter_map as_connection (drop l.line-index l.line-items)))
    ≡ map (led_wire l.bodies l.number) (filter_map wire_of (filter_map as_connection l.line-items))
