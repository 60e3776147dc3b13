use Rattle.capdl_write.proofs.Common.{says_nothing}
use Rattle.capdl_write.proofs.CapEnds.{buffer_word}
use Rattle.capdl_write.proofs.holder.write_buffer.Goals as goal

pub returns-in-None : goal.returns-in-None
returns-in-None g c = rw c.in-None.is says_nothing

pub returns-in-Some : goal.returns-in-Some
returns-in-Some g c =
    let h = rw buffer_word at c.write_cap.ensures in
    rw c.in-Some.is h
