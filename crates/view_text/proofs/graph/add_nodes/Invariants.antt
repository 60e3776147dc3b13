use Rattle.view_text.proofs.Common.{flat_map, node_line, take, ◌++◌, ◌≡◌}
use Rattle.view_text.proofs.graph.add_nodes.Given as goal

abbrev pub invariant-loop-label : goal.invariant-loop-label
invariant-loop-label l = l.text ≡ l.fn.text ++ flat_map node_line (take l.label-index l.labels)
