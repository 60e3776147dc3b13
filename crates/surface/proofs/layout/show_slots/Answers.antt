use Rattle.front_end.proofs.Within.{sound_within}
use Rattle.surface.proofs.layout.show_slots.Goals as goal

pub lay_caps-requires : goal.lay_caps-requires
lay_caps-requires c = let m = c.args.meaning.now in sound_within m.source m.flat m.settled c.requires
