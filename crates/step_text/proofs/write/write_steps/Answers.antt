use Rattle.step_text.proofs.Common.{rules, said_all}
use Rattle.step_text.proofs.write.write_steps.Goals as goal

pub returns : goal.returns
returns g c =
    let all = rw c.as_slice.ensures at c.write_step_lines.ensures in
    said_all c.new-to.ensures.channel c.new-to.ensures.said all c.flush.ensures (search rules)
