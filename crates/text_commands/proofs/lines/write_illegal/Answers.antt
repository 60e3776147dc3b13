use Rattle.text_commands.proofs.Common.{rules, said_all}
use Rattle.text_commands.proofs.lines.write_illegal.Goals as goal

pub returns : goal.returns
returns g c =
    let all = rw (
      c.as_bytes.ensures.value,
      c.format.ensures.text,
      c.as_bytes-2.ensures.value,
      c.why_parts-named.ensures.word,
      c.number_text.ensures,
      c.why_parts-named.ensures.number,
    ) at c.texts.ensures in
    said_all c.new-to.ensures.channel c.new-to.ensures.said all c.flush.ensures (search rules)
