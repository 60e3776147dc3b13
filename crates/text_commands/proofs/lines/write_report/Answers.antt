use Rattle.text_commands.proofs.Common.{rules, said_all, says_then}
use Rattle.text_commands.proofs.lines.write_report.Goals as goal

pub returns : goal.returns
returns g c =
    let reach = rw (
      c.as_bytes.ensures.value,
      c.as_bytes-2.ensures.value,
      c.format.ensures.text,
      c.format-2.ensures.text,
      c.len.ensures.len,
      c.len-2.ensures,
    ) at c.texts.ensures in
    let steps = rw c.as_slice.ensures at c.write_step_lines.ensures in
    let all = says_then (says_then reach c.write_edges.ensures) steps in
    said_all c.new-to.ensures.channel c.new-to.ensures.said all c.flush.ensures (search rules)
