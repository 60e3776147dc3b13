use Rattle.adl_meaning.proofs.SoundNames.{names_sound}
use Rattle.surface.proofs.source.show_names.Goals as goal

pub show_types-requires-clause-sound : goal.show_types-requires-clause-sound
show_types-requires-clause-sound c = names_sound c.args.source.now c.in-Ok.ensures.fault
