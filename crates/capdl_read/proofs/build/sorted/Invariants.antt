use Rattle.capdl_read.proofs.Common.{[], drop, numbered_from, ◌≡◌}
use Rattle.capdl_read.proofs.build.sorted.Given as goal

abbrev pub invariant-loop-slot : goal.invariant-loop-slot
invariant-loop-slot l = numbered_from l.sorted.entries (drop l.slot-index l.slots) ≡ numbered_from [] l.slots
