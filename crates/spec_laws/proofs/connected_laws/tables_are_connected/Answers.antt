use Rattle.spec_laws.proofs.SourceConnected.{tables_are_connected}
use Rattle.spec_laws.proofs.connected_laws.tables_are_connected.Goals as goal

pub returns : goal.returns
returns c = tables_are_connected
