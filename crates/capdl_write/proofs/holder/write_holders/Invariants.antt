use Rattle.capdl_write.proofs.Common.{Says, entry_text, flat_map, take}
use Rattle.capdl_write.proofs.holder.write_holders.Given as goal

abbrev pub invariant-loop-entry : goal.invariant-loop-entry
invariant-loop-entry g l = Says l.fn.to (flat_map (entry_text l.spec) (take l.entry-index l.entries)) l.to
