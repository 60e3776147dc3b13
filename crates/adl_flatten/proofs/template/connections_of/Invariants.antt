use Rattle.adl_flatten.proofs.TemplateCommon.{body, connections_by, drop, filter_map, gather, map, own_connections, take, ◌++◌, ◌≡◌}
use Rattle.adl_flatten.specs.Templates.{led_end_by, led_wire_by}
use Rattle.adl_flatten.proofs.template.connections_of.Given as goal

abbrev pub invariant-loop-wire : goal.invariant-loop-wire
invariant-loop-wire l = l.connections.items ++ map (led_wire_by l.program l.before) (drop l.wire-index l.wires) ≡ own_connections
    l.program l.number

abbrev pub invariant-loop-end : goal.invariant-loop-end
invariant-loop-end l = l.ends.items ++ filter_map (led_end_by l.program l.before) (drop l.end-index l.end-items) ≡ filter_map
    (led_end_by l.program l.before) l.end-items

abbrev pub invariant-loop-i : goal.invariant-loop-i
invariant-loop-i l = l.connections.items ≡ own_connections l.program l.number ++ gather (connections_by l.program l.number)
    (take l.i (body l.program l.number).parts)
