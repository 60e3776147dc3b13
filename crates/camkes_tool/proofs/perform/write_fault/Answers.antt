use Rattle.camkes_tool.proofs.Common.{rules, said_all, says_then, ◌∙◌}
use Rattle.camkes_tool.proofs.perform.write_fault.Goals as goal

pub returns : goal.returns
returns g c =
    let number = rw (c.as_bytes-number.ensures.value ∙ c.format.ensures.text, c.number.ensures) at c.write_code.ensures in
    let title = rw (c.as_bytes-title.ensures.value ∙ c.title.ensures) at number in
    let name = rw c.as_bytes.ensures at title in
    let all = says_then c.write_place.ensures (says_then c.text.ensures name) in
    said_all c.new-to.ensures.channel c.new-to.ensures.said all c.flush.ensures (search rules)
