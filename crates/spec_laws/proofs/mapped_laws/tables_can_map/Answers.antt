use Rattle.spec_laws.proofs.Maps.{tables_can_map}
use Rattle.spec_laws.proofs.mapped_laws.tables_can_map.Goals as goal

pub returns : goal.returns
returns c = tables_can_map
