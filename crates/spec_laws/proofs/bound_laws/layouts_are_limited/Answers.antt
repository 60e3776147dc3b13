use Rattle.spec_laws.proofs.Fits.{layouts_are_limited}
use Rattle.spec_laws.proofs.bound_laws.layouts_are_limited.Goals as goal

pub returns : goal.returns
returns c = layouts_are_limited
