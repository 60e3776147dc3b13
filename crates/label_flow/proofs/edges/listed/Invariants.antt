use Rattle.label_flow.proofs.Common.{◌++◌, ◌≡◌}
use Rattle.cap_model.specs.EdgesLeft.{edges_left}
use Rattle.label_flow.proofs.edges.listed.Given as goal

abbrev pub invariant-loop-edge : goal.invariant-loop-edge
invariant-loop-edge l = l.edges.items ++ edges_left l.edge-iterator ≡ l.table
