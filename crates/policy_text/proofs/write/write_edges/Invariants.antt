use Rattle.policy_text.proofs.Common.{Says, decimal, edge_line, edges_left, flat_map, take, ◌++◌, ◌≡◌, ◌≤◌}
use Rattle.policy_text.proofs.write.write_edges.Given as goal

abbrev pub invariant-loop-edge : goal.invariant-loop-edge
invariant-loop-edge g l = record {
  all : l.yielded ++ edges_left l.edge-iterator ≡ l.edges;
  said : Says l.fn.to (flat_map edge_line l.yielded) l.to;
  within : l.count ≤ 20;
  number : take l.count l.digits ≡ decimal l.label;
}
