use Rattle.spec_laws.proofs.Sizing.{tables_sized}
use Rattle.spec_laws.proofs.kept_laws.tables_are_sized.Goals as goal

pub returns : goal.returns
returns c = tables_sized
