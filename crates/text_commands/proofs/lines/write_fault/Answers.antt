use Rattle.text_commands.proofs.Common.{rules, said_all, says_then, ◌∙◌}
use Rattle.text_commands.proofs.lines.write_fault.Goals as goal

pub returns : goal.returns
returns g c =
    let word = rw (c.as_bytes-word.ensures.value ∙ c.word.ensures) at c.write_code.ensures in
    let title = rw (c.as_bytes-title.ensures.value ∙ c.title.ensures) at word in
    let name = rw c.as_bytes.ensures at title in
    let all = says_then c.write_place.ensures name in
    said_all c.new-to.ensures.channel c.new-to.ensures.said all c.flush.ensures (search rules)
