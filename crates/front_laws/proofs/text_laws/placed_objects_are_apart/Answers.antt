use Rattle.front_laws.proofs.Placing.{apart, blocks_placed, devices_placed}
use Rattle.front_laws.proofs.text_laws.placed_objects_are_apart.Goals as goal

pub returns-clause-apart : goal.returns-clause-apart
returns-clause-apart c = λ ns rs places. apart rs ns places

pub returns-clause-devices : goal.returns-clause-devices
returns-clause-devices c = λ ns rs places. devices_placed rs ns places

pub returns-clause-blocks : goal.returns-clause-blocks
returns-clause-blocks c = λ ns rs places. blocks_placed rs ns places
