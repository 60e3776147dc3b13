use Rattle.spec_laws.proofs.Showing.{memory_frames}
use Rattle.spec_laws.proofs.laws.windows_show_one_memory.Goals as goal

pub returns : goal.returns
returns c = memory_frames
