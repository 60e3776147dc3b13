use Rattle.adl_parse.proofs.Common.{value_closed, value_decides, value_line}
use Rattle.adl_parse.proofs.Parts.{part_within, part_ok, part_refused}
use Rattle.adl_parse.proofs.part.parse_value.Goals as goal

pub position-requires : goal.position-requires
position-requires c = part_within value_line value_decides c.args.bytes.now c.args.tokens.now.list c.args.at c.in-Ok.value
    c.read_value.new.at (rw c.new-left.ensures at c.in-Ok.ensures)

pub returns-in-Ok-clause-part : goal.returns-in-Ok-clause-part
returns-in-Ok-clause-part c = rw c.position.ensures (part_ok value_line value_decides c.args.bytes.now c.args.tokens.now.list
    c.args.at c.in-Ok.value c.read_value.new.at (rw c.new-left.ensures at c.in-Ok.ensures))

pub returns-in-Err-clause-part : goal.returns-in-Err-clause-part
returns-in-Err-clause-part c = part_refused value_line value_decides c.args.bytes.now c.args.tokens.now.list c.args.at
    value_closed c.in-Err.error c.refusal_of.result (rw c.new-left.ensures at c.in-Err.ensures) c.refusal_of.ensures
