use Rattle.front_end.proofs.Common.{first_front_fault, short_few}
use Rattle.front_end.proofs.LoadedFew.{loaded_few}
use Rattle.front_end.proofs.LoadedShort.{loaded_short}
use Rattle.front_end.proofs.Refusing.{meant_meaning, unloaded_refuses}
use Rattle.front_end.proofs.phases.meaning_of.Goals as goal

pub with_parts-requires-clause-members : goal.with_parts-requires-clause-members
with_parts-requires-clause-members g c =
    let some = g.met.F.Files.some c.load.new.files in
    short_few c.in-Ok.source (loaded_short some.0 c.args.root.now c.in-Ok.source (c.in-Ok.ensures.loaded some.0 some.1))

pub with_parts-requires-clause-few : goal.with_parts-requires-clause-few
with_parts-requires-clause-few g c =
    let some = g.met.F.Files.some c.load.new.files in
    loaded_few some.0 c.args.root.now c.in-Ok.source (c.in-Ok.ensures.loaded some.0 some.1)

pub returns-in-Ok-clause-meaning : goal.returns-in-Ok-clause-meaning
returns-in-Ok-clause-meaning g c m told =
    meant_meaning c.args.root.now m (g.F.Files.faults c.args.files.now) (g.F.Files.faults c.load.new.files) c.in-Ok.source
    c.with_parts.result (c.in-Ok.ensures.loaded m told) c.with_parts.ensures

pub returns-in-Err-clause-meaning : goal.returns-in-Err-clause-meaning
returns-in-Err-clause-meaning g c m told =
    unloaded_refuses first_front_fault c.args.root.now m (g.F.Files.faults c.args.files.now) (g.F.Files.faults c.load.new.files)
    c.in-Err.error (c.in-Err.ensures.loaded m told) c.in-Err.ensures.rose
