use Rattle.adl_types.proofs.Common.{ap, flat_map, led_wire_faults, noted, ◌∙◌}
use Rattle.adl_types.proofs.Typed.{wires_faulty}
use Rattle.adl_meaning.proofs.Noting.{noted_each}
use Rattle.adl_types.proofs.faults.note_wires.Goals as goal

pub loop-wire-init : goal.loop-wire-init
loop-wire-init c = ap (noted c.args.first.now) (ap (flat_map (led_wire_faults c.args.program.now)) c.wires-wire-items.ensures
    ∙ wires_faulty c.args.program.now c.args.number)

pub loop-wire-preserved : goal.loop-wire-preserved
loop-wire-preserved c =
    noted_each (led_wire_faults c.args.program.now) c.note_wire.new.first c.loop-wire.first c.wires-wire-items.result.now
    c.loop-wire.wire-index c.wire-item.result c.loop-wire-test.true c.wire-item.is c.note_wire.ensures ∙ c.loop-wire.invariant
