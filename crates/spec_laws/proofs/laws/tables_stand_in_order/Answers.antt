use Rattle.spec_laws.proofs.TablesInOrder.{tables_in_order}
use Rattle.spec_laws.proofs.laws.tables_stand_in_order.Goals as goal

pub returns : goal.returns
returns c = tables_in_order
