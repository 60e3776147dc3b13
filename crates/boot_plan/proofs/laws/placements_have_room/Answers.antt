use Rattle.boot_plan.proofs.Necessity.{none_where_lacking, room_of}
use Rattle.boot_plan.proofs.laws.placements_have_room.Goals as goal

pub returns-clause-room : goal.returns-clause-room
returns-clause-room c = room_of

pub returns-clause-none : goal.returns-clause-none
returns-clause-none c = none_where_lacking
