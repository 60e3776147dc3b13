use Rattle.sect_table.proofs.Common.{rules, said_all, says_then}
use Rattle.sect_table.specs.Texts.{table_text}
use Rattle.sect_table.proofs.write.write_sections.Goals as goal

pub returns : goal.returns
unfolding table_text
returns g c =
    let entry = rw (c.hexadecimal.ensures.text, c.entry_end.ensures) at c.texts.ensures in
    let lines = rw c.as_slice.ensures at c.write_lines.ensures in
    said_all c.new-to.ensures.channel c.new-to.ensures.said (says_then entry lines) c.flush.ensures (search rules)
