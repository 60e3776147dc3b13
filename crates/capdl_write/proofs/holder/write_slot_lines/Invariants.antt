use Rattle.capdl_write.proofs.Common.{Says, flat_map, slot_line, take}
use Rattle.capdl_write.proofs.holder.write_slot_lines.Given as goal

abbrev pub invariant-loop-slot : goal.invariant-loop-slot
invariant-loop-slot g l = Says l.fn.to (flat_map (slot_line l.spec) (take l.slot-index l.slots)) l.to
