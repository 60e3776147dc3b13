-- write_window
use Rattle.system_spec.proofs.Common.{says_then}
use Rattle.system_spec.proofs.map_text.MapNames.write_window.Goals as goal

pub returns : goal.returns
returns g c =
    let more = rw (c.hexadecimal-vaddr.ensures.text, c.as_bytes-bytes.ensures.value, c.format.ensures.text) at c.texts.ensures in
    says_then (says_then c.text.ensures c.write_end.ensures) more
