use Rattle.front_end.proofs.Refusing.{meaning_sound}
use Rattle.surface.proofs.layout.show_layout.Goals as goal

pub show_images-requires : goal.show_images-requires
show_images-requires g c =
    let some = g.met.F.Files.some c.meaning_of.new.files in
    meaning_sound _ some.0 c.in-Ok.meaning (c.in-Ok.ensures.meaning some.0 some.1)

pub show_slots-requires : goal.show_slots-requires
show_slots-requires g c =
    let some = g.met.F.Files.some c.meaning_of.new.files in
    meaning_sound _ some.0 c.in-Ok.meaning (c.in-Ok.ensures.meaning some.0 some.1)
