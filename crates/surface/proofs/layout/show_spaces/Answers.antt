use Rattle.arch_compile.proofs.Layouts.{sound_lays}
use Rattle.front_end.proofs.Within.{sound_within}
use Rattle.surface.proofs.layout.show_spaces.Goals as goal

pub lay_spaces-laid-requires-clause-within : goal.lay_spaces-laid-requires-clause-within
lay_spaces-laid-requires-clause-within c = let m = c.args.meaning.now in sound_within m.source m.flat m.settled c.requires.sound

pub lay_spaces-laid-requires-clause-settled : goal.lay_spaces-laid-requires-clause-settled
lay_spaces-laid-requires-clause-settled c = let m = c.args.meaning.now in
    sound_lays m.source m.flat m.settled c.args.images.now c.requires.sound
