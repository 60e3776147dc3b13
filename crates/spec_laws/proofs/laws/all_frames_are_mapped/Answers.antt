use Rattle.spec_laws.proofs.AllFrames.{all_frames}
use Rattle.spec_laws.proofs.laws.all_frames_are_mapped.Goals as goal

pub returns : goal.returns
returns c = all_frames
