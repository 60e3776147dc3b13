use Rattle.capdl_write.proofs.Common.{false, rules, says_nothing, sym, ◌≡◌}
use Rattle.capdl_write.proofs.holder.write_tcb_slots.Goals as goal

pub returns-else-has_slot : goal.returns-else-has_slot
returns-else-has_slot g c =
    let none : c.has_slot.result ≡ false = search rules in
    rw (sym c.has_slot.ensures, none) says_nothing
