use Rattle.spec_laws.proofs.Connections.{laid_out}
use Rattle.spec_laws.proofs.edge_laws.specs_are_laid_out.Goals as goal

pub returns : goal.returns
returns c = λ t h apart kept. laid_out t h apart kept
