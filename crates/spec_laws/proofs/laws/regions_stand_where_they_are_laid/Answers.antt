use Rattle.spec_laws.proofs.Regioning.{regions_are}
use Rattle.spec_laws.proofs.laws.regions_stand_where_they_are_laid.Goals as goal

pub returns : goal.returns
returns c = regions_are
