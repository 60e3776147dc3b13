use Rattle.capdl_write.proofs.holder.write_slot.Goals as goal

pub returns : goal.returns
returns g c = rw c.hexadecimal-number.ensures.text at c.write_cap.ensures
