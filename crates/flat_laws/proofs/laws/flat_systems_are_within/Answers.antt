use Rattle.flat_laws.proofs.AreWithin.{flat_is_within}
use Rattle.flat_laws.proofs.laws.flat_systems_are_within.Goals as goal

pub returns : goal.returns
returns c = flat_is_within
