use Rattle.spec_laws.proofs.Owning.{own_frames_are}
use Rattle.spec_laws.proofs.laws.other_frames_are_mapped_once.Goals as goal

pub returns : goal.returns
returns c = own_frames_are
