use Rattle.arch_compile.proofs.Common.{AlikeInTables, arith, sound_small, sound_within, subst, sym}
use Rattle.arch_compile.proofs.Compiling.{built_of_images, built_unread, images_imaged, tables_named}
use Rattle.arch_compile.proofs.building.with_images.Goals as goal

pub root_of-root-requires : goal.root_of-root-requires
root_of-root-requires g c = c.requires.whole.root

pub read_images-requires : goal.read_images-requires
read_images-requires g c =
    let m = c.args.meaning in let files = c.requires.whole.few.files in
    let leaves = (sound_small m.source m.flat m.settled c.requires).leaves in
    omega (arith, files, leaves)

pub with_layout-requires-clause-imaged : goal.with_layout-requires-clause-imaged
with_layout-requires-clause-imaged g c =
    let m = c.args.meaning in let some = g.met.F.Files.some c.read_images.new.files in
    images_imaged some.0 c.root_of-root.result.now m c.in-Ok.images (c.in-Ok.ensures.read some.0 some.1)
    (sound_within m.source m.flat m.settled c.requires)

pub returns-in-Ok-clause-builds : goal.returns-in-Ok-clause-builds
returns-in-Ok-clause-builds g c contents told =
    built_of_images contents (g.F.Files.faults c.args.files.now) (g.F.Files.faults c.read_images.new.files) c.args.meaning
    c.root_of-root.result.now c.in-Ok.images c.with_layout.result c.requires.meant c.root_of-root.ensures
    (c.in-Ok.ensures.read contents told) c.with_layout.ensures

pub returns-in-Err-clause-builds : goal.returns-in-Err-clause-builds
returns-in-Err-clause-builds g c contents told =
    built_unread contents (g.F.Files.faults c.args.files.now) (g.F.Files.faults c.read_images.new.files) c.args.meaning
    c.root_of-root.result.now c.in-Err.error c.requires.meant c.root_of-root.ensures
    (c.in-Err.ensures.read contents told) c.in-Err.ensures.rose

pub returns-in-Ok-clause-learned : goal.returns-in-Ok-clause-learned
returns-in-Ok-clause-learned g c m n now old alike =
    let named = tables_named c.args.meaning c.root_of-root.result.now c.requires.meant c.root_of-root.ensures in
    c.in-Ok.ensures.learned m n now old (subst (λ names. AlikeInTables names m n) (sym named) alike)

pub returns-in-Err-clause-learned : goal.returns-in-Err-clause-learned
returns-in-Err-clause-learned g c m n now old alike =
    let named = tables_named c.args.meaning c.root_of-root.result.now c.requires.meant c.root_of-root.ensures in
    c.in-Err.ensures.learned m n now old (subst (λ names. AlikeInTables names m n) (sym named) alike)
