use Rattle.capdl_read.proofs.Common.{drop, first_numbered, ◌≡◌}
use Rattle.capdl_read.proofs.build.first_numbered.Given as goal

abbrev pub invariant-loop-slot : goal.invariant-loop-slot
invariant-loop-slot l = first_numbered (drop l.slot-index l.slots) ≡ first_numbered l.slots
