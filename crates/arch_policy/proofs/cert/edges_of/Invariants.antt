use Rattle.arch_policy.proofs.Common.{edges_left, ◌++◌, ◌≡◌}
use Rattle.arch_policy.proofs.cert.edges_of.Given as goal

abbrev pub invariant-loop-edge : goal.invariant-loop-edge
invariant-loop-edge l = l.edges.items ++ edges_left l.edge-iterator ≡ l.table
