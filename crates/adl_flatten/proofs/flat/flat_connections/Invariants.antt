use Rattle.adl_flatten.proofs.Common.{drop, flat_connection_of, map, ◌++◌, ◌≡◌}
use Rattle.adl_flatten.proofs.flat.flat_connections.Given as goal

abbrev pub invariant-loop-connection : goal.invariant-loop-connection
invariant-loop-connection l = l.flat.items ++ map flat_connection_of (drop l.connection-index l.connections) ≡ map
    flat_connection_of l.connections
