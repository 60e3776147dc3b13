use Rattle.adl_hierarchy.proofs.Connections.{connections_stand, connections_once}
use Rattle.adl_hierarchy.proofs.laws.connections_are_the_connections.Goals as goal

pub returns-clause-each : goal.returns-clause-each
returns-clause-each c = connections_stand

pub returns-clause-once : goal.returns-clause-once
returns-clause-once c = connections_once
