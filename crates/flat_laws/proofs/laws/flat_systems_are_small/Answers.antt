use Rattle.flat_laws.proofs.Small.{flat_small}
use Rattle.flat_laws.proofs.laws.flat_systems_are_small.Goals as goal

pub returns : goal.returns
returns c = flat_small
