use Rattle.capdl_write.proofs.Common.{says_then}
use Rattle.capdl_write.proofs.holder.write_some_slots.Goals as goal

pub returns : goal.returns
returns g c = says_then (says_then c.texts.ensures c.write_slot_lines.ensures) c.text.ensures
