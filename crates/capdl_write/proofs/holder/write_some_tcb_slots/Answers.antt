use Rattle.capdl_write.proofs.Common.{says_then}
use Rattle.capdl_write.proofs.holder.write_some_tcb_slots.Goals as goal

pub returns : goal.returns
returns g c =
    says_then (says_then (says_then (says_then c.texts.ensures c.write_named.ensures) c.write_named-2.ensures)
    c.write_buffer.ensures) c.text.ensures
