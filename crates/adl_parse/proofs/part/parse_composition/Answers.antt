use Rattle.adl_parse.proofs.Common.{composition_closed, composition_decides, composition_line}
use Rattle.adl_parse.proofs.Parts.{part_within, part_ok, part_refused}
use Rattle.adl_parse.proofs.part.parse_composition.Goals as goal

pub position-requires : goal.position-requires
position-requires c = part_within composition_line composition_decides c.args.bytes.now c.args.tokens.now.list c.args.at
    c.in-Ok.composition c.read_composition.new.at (rw c.new-left.ensures at c.in-Ok.ensures)

pub returns-in-Ok-clause-part : goal.returns-in-Ok-clause-part
returns-in-Ok-clause-part c = rw c.position.ensures (part_ok composition_line composition_decides c.args.bytes.now
    c.args.tokens.now.list c.args.at c.in-Ok.composition c.read_composition.new.at (rw c.new-left.ensures at c.in-Ok.ensures))

pub returns-in-Err-clause-part : goal.returns-in-Err-clause-part
returns-in-Err-clause-part c = part_refused composition_line composition_decides c.args.bytes.now c.args.tokens.now.list c.args.at
    composition_closed c.in-Err.error c.refusal_of.result (rw c.new-left.ensures at c.in-Err.ensures) c.refusal_of.ensures
