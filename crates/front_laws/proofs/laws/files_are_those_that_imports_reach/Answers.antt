use Rattle.front_laws.proofs.Importing.{files_reached}
use Rattle.front_laws.proofs.laws.files_are_those_that_imports_reach.Goals as goal

pub returns : goal.returns
returns c = files_reached
