use Rattle.camkes_tool.proofs.Common.{rules, said_all}
use Rattle.camkes_tool.proofs.perform.write_read_fault.Goals as goal

pub returns : goal.returns
returns g c = said_all c.new-to.ensures.channel c.new-to.ensures.said c.texts.ensures c.flush.ensures (search rules)
