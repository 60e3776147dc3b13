use Rattle.view_tool.proofs.Common.{Err, Ok, arith, few_labels, meaning_sound, wanted}
use Rattle.view_tool.proofs.Widening.{refused_since, refused_still}
use Rattle.view_tool.proofs.build.view_build.Goals as goal

pub show-requires-clause-few : goal.show-requires-clause-few
show-requires-clause-few g c =
    let m = c.in-Ok.build.meaning in
    let some = g.met.F.Files.some c.compile.new.files in
    let sound = meaning_sound c.args.root.now some.0 m (c.in-Ok.ensures.compiled some.0 some.1).meant in
    omega (arith, few_labels m.source m.flat m.settled sound)

pub show-requires-clause-sound : goal.show-requires-clause-sound
show-requires-clause-sound g c =
    let some = g.met.F.Files.some c.compile.new.files in
    meaning_sound c.args.root.now some.0 c.in-Ok.build.meaning (c.in-Ok.ensures.compiled some.0 some.1).meant

pub returns-in-Ok-clause-fits : goal.returns-in-Ok-clause-fits
returns-in-Ok-clause-fits g c m told = (Ok c.in-Ok.build, c.in-Ok.ensures.compiled m told, c.show.ensures)

pub returns-in-Err-clause-fits : goal.returns-in-Err-clause-fits
returns-in-Err-clause-fits g c m told =
    let before = g.F.Files.faults c.args.files.now in
    let mid = g.F.Files.faults c.compile.new.files in
    let now = g.F.Files.faults c.refuse_build.new.files in
    let e = c.in-Err.error in (
      Err e,
      refused_still m before mid now c.args.root.now e c.in-Err.ensures.kept.later c.refuse_build.ensures.kept.later
          (c.in-Err.ensures.compiled m (c.refuse_build.ensures.kept.told_still m told)),
      refused_since m before mid now (wanted c.args.asked) e c.refuse_build.result c.in-Err.ensures.kept.later
          (c.refuse_build.ensures.fits m told),
    )
