use Rattle.adl_import.proofs.Unique.{one_source}
use Rattle.adl_import.proofs.laws.sources_are_one.Goals as goal

pub returns : goal.returns
returns c = one_source
