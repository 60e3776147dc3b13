use Rattle.std.proofs.Common.{arith}
use Rattle.arch_compile.proofs.Compiling.{images_imaged}
use Rattle.front_end.proofs.Within.{sound_small, sound_within}
use Rattle.surface.proofs.layout.show_images.Goals as goal

pub read_images-requires : goal.read_images-requires
read_images-requires g c =
    let m = c.args.meaning.now in
    let files = c.requires.whole.few.files in
    let leaves = (sound_small m.source m.flat m.settled c.requires).leaves in
    omega (arith, files, leaves)

pub show_spaces-requires-clause-imaged : goal.show_spaces-requires-clause-imaged
show_spaces-requires-clause-imaged g c =
    let m = c.args.meaning.now in
    let some = g.met.F.Files.some c.read_images.new.files in
    images_imaged some.0 _ m c.in-Ok.images (c.in-Ok.ensures.read some.0 some.1)
    (sound_within m.source m.flat m.settled c.requires)
