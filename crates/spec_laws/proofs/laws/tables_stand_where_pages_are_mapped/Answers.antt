use Rattle.spec_laws.proofs.Tabled.{tables_are}
use Rattle.spec_laws.proofs.laws.tables_stand_where_pages_are_mapped.Goals as goal

pub returns : goal.returns
returns c = tables_are
