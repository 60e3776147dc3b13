use Rattle.view_tool.proofs.Common.{Err, Ok, front_sound}
use Rattle.view_tool.proofs.source.view_front.Goals as goal

pub draw-requires : goal.draw-requires
draw-requires g c =
    let some = g.met.F.Files.some c.front.new.files in
    front_sound c.args.root.now some.0 c.in-Ok.front (c.in-Ok.ensures.front some.0 some.1)

pub returns-in-Ok-clause-fits : goal.returns-in-Ok-clause-fits
returns-in-Ok-clause-fits g c m told = (Ok c.in-Ok.front, c.in-Ok.ensures.front m told, c.draw.ensures)

pub returns-in-Err-clause-fits : goal.returns-in-Err-clause-fits
returns-in-Err-clause-fits g c m told = (Err c.in-Err.error, c.in-Err.ensures.front m told, c.refuse_source.ensures)
