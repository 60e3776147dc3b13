use Rattle.capdl_read.proofs.Common.{[], drop, numbered_from, ◌≡◌}
use Rattle.capdl_read.proofs.Behind.{AreBehind}
use Rattle.capdl_read.proofs.build.rising.Given as goal

abbrev pub invariant-loop-slot : goal.invariant-loop-slot
invariant-loop-slot l = record {
  numbered : numbered_from l.rising (drop l.slot-index l.slots) ≡ numbered_from [] l.slots;
  behind : AreBehind l.rising l.last;
}
