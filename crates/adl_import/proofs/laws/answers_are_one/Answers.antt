use Rattle.adl_import.proofs.Unique.{loaded_one}
use Rattle.adl_import.proofs.laws.answers_are_one.Goals as goal

pub returns : goal.returns
returns c = loaded_one
