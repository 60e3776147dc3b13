use Rattle.spec_laws.proofs.Fits.{tables_are_fit}
use Rattle.spec_laws.proofs.bound_laws.tables_are_fit.Goals as goal

pub returns : goal.returns
returns c = tables_are_fit
