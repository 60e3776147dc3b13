use Rattle.label_flow.proofs.Common.{map, turned, ◌++◌, ◌≡◌}
use Rattle.cap_model.specs.EdgesLeft.{edges_left}
use Rattle.label_flow.proofs.edges.all_turned.Given as goal

abbrev pub invariant-loop-edge : goal.invariant-loop-edge
invariant-loop-edge l = l.edges.items ++ map turned (edges_left l.edge-iterator) ≡ map turned l.table
