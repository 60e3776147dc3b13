use Rattle.capdl_write.proofs.Common.{Says, entry_line, flat_map, take}
use Rattle.capdl_write.proofs.object.write_objects.Given as goal

abbrev pub invariant-loop-entry : goal.invariant-loop-entry
invariant-loop-entry g l = Says l.fn.to (flat_map entry_line (take l.entry-index l.entries)) l.to
