use Rattle.spec_laws.proofs.Bounds.{can_build}
use Rattle.spec_laws.proofs.bound_laws.specs_can_be_built.Goals as goal

pub returns : goal.returns
returns c = can_build
