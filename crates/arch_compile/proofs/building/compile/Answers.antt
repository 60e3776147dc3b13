use Rattle.arch_compile.proofs.Common.{IsMeaningOf, IsOfSource, IsSound, meaning_sound}
use Rattle.arch_compile.proofs.Compiling.{built_compiled, built_so, refused_compiled}
use Rattle.arch_compile.proofs.OfSources.{build_of_source}
use Rattle.arch_compile.proofs.Soundness.{build_sound}
use Rattle.arch_compile.proofs.building.compile.Goals as goal

pub with_images-requires : goal.with_images-requires
with_images-requires g c =
    let some = g.met.F.Files.some c.meaning_of.new.files in
    meaning_sound c.args.root.now some.0 c.in-Ok.meaning (c.in-Ok.ensures.meaning some.0 some.1)

pub returns-in-Ok-clause-compiled : goal.returns-in-Ok-clause-compiled
returns-in-Ok-clause-compiled g c m told =
    built_compiled c.args.root.now m c.in-Ok.meaning (c.in-Ok.ensures.meaning m (c.with_images.ensures.kept.told_still m told))
    (g.F.Files.faults c.args.files.now) (g.F.Files.faults c.meaning_of.new.files) (g.F.Files.faults c.with_images.new.files)
    c.with_images.result
    c.in-Ok.ensures.kept.later (c.with_images.ensures.builds m told)

pub returns-in-Ok-clause-of_source : goal.returns-in-Ok-clause-of_source
returns-in-Ok-clause-of_source g c m told =
    built_so c.args.root.now m c.in-Ok.meaning (c.in-Ok.ensures.meaning m (c.with_images.ensures.kept.told_still m told))
    (IsOfSource m) (build_of_source c.args.root.now m) _ _ c.with_images.result (c.with_images.ensures.builds m told)

pub returns-in-Ok-clause-sound : goal.returns-in-Ok-clause-sound
returns-in-Ok-clause-sound g c =
    let some = g.met.F.Files.some c.with_images.new.files in
    built_so c.args.root.now some.0 c.in-Ok.meaning
    (c.in-Ok.ensures.meaning some.0 (c.with_images.ensures.kept.told_still some.0 some.1))
    IsSound (build_sound c.args.root.now some.0) _ _ c.with_images.result (c.with_images.ensures.builds some.0 some.1)

pub returns-in-Err-clause-compiled : goal.returns-in-Err-clause-compiled
returns-in-Err-clause-compiled g c m told =
    refused_compiled c.args.root.now m (g.F.Files.faults c.args.files.now) (g.F.Files.faults c.meaning_of.new.files)
    c.in-Err.error (c.in-Err.ensures.meaning m told)

pub returns-in-Ok-clause-learned : goal.returns-in-Ok-clause-learned
returns-in-Ok-clause-learned g c m n now old alike =
    let held = c.with_images.ensures.kept.told_still m now in
    let meaning : IsMeaningOf c.args.root.now m c.in-Ok.meaning = c.in-Ok.ensures.meaning m held in
    c.with_images.ensures.learned m n now (c.in-Ok.ensures.learned m n held old alike.source)
    (alike.tables c.in-Ok.meaning.source (record { loaded = meaning.loaded; none = meaning.none }))

pub returns-in-Err-clause-learned : goal.returns-in-Err-clause-learned
returns-in-Err-clause-learned g c m n now old alike = c.in-Err.ensures.learned m n now old alike.source
