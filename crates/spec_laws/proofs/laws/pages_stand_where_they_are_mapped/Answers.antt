use Rattle.spec_laws.proofs.Spaces.{pages_are}
use Rattle.spec_laws.proofs.laws.pages_stand_where_they_are_mapped.Goals as goal

pub returns : goal.returns
returns c = pages_are
