use Rattle.vspace_layout.proofs.Few.{few_at, frames_few}
use Rattle.vspace_layout.proofs.laws.regions_and_frames_are_few.Goals as goal

pub returns-clause-regions : goal.returns-clause-regions
returns-clause-regions c = few_at

pub returns-clause-frames : goal.returns-clause-frames
returns-clause-frames c = frames_few
