use Rattle.cap_machine.proofs.Table.{has_next, next_passes, one_next}
use Rattle.cap_machine.proofs.laws.steps_follow_the_table.Goals as goal

pub returns-clause-legal : goal.returns-clause-legal
returns-clause-legal c = λ spec s step. (has_next spec s step, next_passes spec s step)

pub returns-clause-one : goal.returns-clause-one
returns-clause-one c = one_next
