use Rattle.capdl_write.proofs.Common.{arith, get_or, get_or_default, says_line, says_lines, says_nothing, slot_line}
use Rattle.capdl_write.proofs.Items.{no_slot}
use Rattle.capdl_write.proofs.holder.write_slot_lines.Goals as goal

pub loop-slot-init : goal.loop-slot-init
loop-slot-init g c = says_nothing

pub loop-slot-preserved : goal.loop-slot-preserved
loop-slot-preserved g c = says_line (slot_line c.args.spec.now) c.args.slots.now c.loop-slot.slot-index
    (get_or c.args.slots.now c.loop-slot.slot-index no_slot) (omega arith) (get_or_default c.args.slots.now c.loop-slot.slot-index
    _ _ (omega arith)) c.loop-slot.invariant c.write_slot.ensures

pub returns : goal.returns
returns g c = says_lines (slot_line c.args.spec.now) c.args.slots.now c.loop-slot.slot-index (omega arith) c.loop-slot.invariant
