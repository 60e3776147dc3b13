use Rattle.vspace_layout.proofs.Low.{addresses_low}
use Rattle.vspace_layout.proofs.laws.addresses_are_low.Goals as goal

pub returns : goal.returns
returns c = addresses_low
