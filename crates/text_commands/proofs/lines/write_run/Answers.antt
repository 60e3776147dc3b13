use Rattle.text_commands.proofs.Common.{rules, said_all, says_then}
use Rattle.text_commands.proofs.lines.write_run.Goals as goal

pub returns : goal.returns
returns g c =
    let count = rw (c.as_bytes.ensures.value, c.format.ensures.text) at c.texts.ensures in
    let all = says_then count c.write_edges.ensures in
    said_all c.new-to.ensures.channel c.new-to.ensures.said all c.flush.ensures (search rules)
