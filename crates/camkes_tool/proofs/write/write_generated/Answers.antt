use Rattle.camkes_tool.proofs.Common.{rules, said_all, says_then}
use Rattle.camkes_tool.proofs.write.write_generated.Goals as goal

pub returns : goal.returns
returns g c =
    let all = says_then c.write_summary.ensures c.text.ensures in
    said_all c.new-to.ensures.channel c.new-to.ensures.said all c.flush.ensures (search rules)
