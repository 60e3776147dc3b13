use Rattle.adl_parse.proofs.Common.{configuration_closed, configuration_decides, configuration_line}
use Rattle.adl_parse.proofs.Parts.{part_within, part_ok, part_refused}
use Rattle.adl_parse.proofs.part.parse_configuration.Goals as goal

pub position-requires : goal.position-requires
position-requires c = part_within configuration_line configuration_decides c.args.bytes.now c.args.tokens.now.list c.args.at
    c.in-Ok.configuration c.read_configuration.new.at (rw c.new-left.ensures at c.in-Ok.ensures)

pub returns-in-Ok-clause-part : goal.returns-in-Ok-clause-part
returns-in-Ok-clause-part c = rw c.position.ensures (part_ok configuration_line configuration_decides c.args.bytes.now
    c.args.tokens.now.list c.args.at c.in-Ok.configuration c.read_configuration.new.at (rw c.new-left.ensures at c.in-Ok.ensures))

pub returns-in-Err-clause-part : goal.returns-in-Err-clause-part
returns-in-Err-clause-part c = part_refused configuration_line configuration_decides c.args.bytes.now c.args.tokens.now.list
    c.args.at configuration_closed c.in-Err.error c.refusal_of.result (rw c.new-left.ensures at c.in-Err.ensures)
    c.refusal_of.ensures
