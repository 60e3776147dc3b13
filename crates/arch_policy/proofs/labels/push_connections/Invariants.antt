use Rattle.arch_policy.proofs.Common.{connection_texts, drop, firsts, ◌++◌, ◌≡◌}
use Rattle.arch_policy.proofs.labels.push_connections.Given as goal

abbrev pub invariant-loop-connection : goal.invariant-loop-connection
invariant-loop-connection l = firsts l.texts ++ connection_texts (drop l.connection-index l.connections) ≡ firsts l.fn.texts
    ++ connection_texts l.connections
