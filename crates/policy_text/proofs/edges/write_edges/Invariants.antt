use Rattle.policy_text.proofs.Common.{Says, apart_line, edges_left, flat_map, ◌++◌, ◌≡◌}
use Rattle.policy_text.proofs.edges.write_edges.Given as goal

abbrev pub invariant-loop-edge : goal.invariant-loop-edge
invariant-loop-edge g l = record {
  all : l.yielded ++ edges_left l.edge-iterator ≡ l.edges;
  said : Says l.fn.to (flat_map (apart_line l.names) l.yielded) l.to;
}
