use Rattle.spec_laws.proofs.Bounds.{can_lay}
use Rattle.spec_laws.proofs.bound_laws.spaces_can_be_laid.Goals as goal

pub returns : goal.returns
returns c = can_lay
