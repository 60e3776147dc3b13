-- write_slot
use Rattle.system_spec.proofs.Common.{says_then}
use Rattle.system_spec.proofs.map_text.MapNames.write_slot.Goals as goal

pub returns : goal.returns
returns g c =
    let more = rw (c.hexadecimal-slot.ensures.text, c.name-object.ensures) at c.texts.ensures in
    says_then (says_then c.text.ensures c.write_end.ensures) more
