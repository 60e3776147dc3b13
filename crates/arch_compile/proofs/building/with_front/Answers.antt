use Rattle.arch_compile.proofs.Compiling.{finished, front_assigned, front_laid, front_numbered, front_sound}
use Rattle.arch_compile.proofs.building.with_front.Goals as goal

pub with_made-requires-clause-sound : goal.with_made-requires-clause-sound
with_made-requires-clause-sound c = front_sound c.args.meaning c.in-Ok.front c.in-Ok.ensures c.requires.sound

pub with_made-requires-clause-assigned : goal.with_made-requires-clause-assigned
with_made-requires-clause-assigned c = front_assigned c.args.meaning c.in-Ok.front c.in-Ok.ensures

pub with_made-requires-clause-numbered : goal.with_made-requires-clause-numbered
with_made-requires-clause-numbered c = front_numbered c.args.meaning c.in-Ok.front c.in-Ok.ensures

pub with_made-requires-clause-laid : goal.with_made-requires-clause-laid
with_made-requires-clause-laid c = front_laid c.args.meaning c.in-Ok.front c.args.images.now c.args.layout c.in-Ok.ensures
    c.requires.laid

pub returns-in-Ok : goal.returns-in-Ok
returns-in-Ok c = finished c.args.meaning c.in-Ok.front c.args.images.now c.with_made.result c.in-Ok.ensures c.with_made.ensures
