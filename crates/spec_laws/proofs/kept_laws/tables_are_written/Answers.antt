use Rattle.spec_laws.proofs.Plainly.{tables_written}
use Rattle.spec_laws.proofs.kept_laws.tables_are_written.Goals as goal

pub returns : goal.returns
returns c = tables_written
