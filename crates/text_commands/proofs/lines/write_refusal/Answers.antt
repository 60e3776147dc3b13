use Rattle.text_commands.proofs.Common.{rules, said_all, says_then}
use Rattle.text_commands.proofs.lines.write_refusal.Goals as goal

pub returns : goal.returns
returns g c =
    let rule = rw (c.as_bytes.ensures.value, c.format.ensures.text) at c.texts.ensures in
    let all = says_then (says_then rule c.write_haves.ensures) c.write_edge.ensures in
    said_all c.new-to.ensures.channel c.new-to.ensures.said all c.flush.ensures (search rules)
