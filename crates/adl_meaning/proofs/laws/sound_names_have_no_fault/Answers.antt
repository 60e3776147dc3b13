use Rattle.adl_meaning.proofs.SoundNames.{names_sound}
use Rattle.adl_meaning.proofs.laws.sound_names_have_no_fault.Goals as goal

pub returns : goal.returns
returns c = names_sound
