use Rattle.front_end.proofs.LoadedWhole.{loaded_whole}
use Rattle.front_end.proofs.laws.loaded_sources_are_whole.Goals as goal

pub returns : goal.returns
returns c = loaded_whole
