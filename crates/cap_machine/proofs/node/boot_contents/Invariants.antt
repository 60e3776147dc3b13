use Rattle.cap_machine.proofs.Common.{IsOrdered, boot_slot, map, nat_cmp, take, ◌≡◌}
use Rattle.cap_machine.proofs.node.boot_contents.Given as goal

abbrev pub invariant-loop-slot : goal.invariant-loop-slot
invariant-loop-slot l = (l.contents.entries ≡ map boot_slot (take l.slot-index l.slots)) × IsOrdered nat_cmp l.contents
