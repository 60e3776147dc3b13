use Rattle.view_text.proofs.Common.{flat_map, node_of, shape_at, take, ◌++◌, ◌≡◌}
use Rattle.view_text.proofs.picture.add_nodes.Given as goal

abbrev pub invariant-loop-label : goal.invariant-loop-label
invariant-loop-label l = l.text ≡ l.fn.text ++ flat_map (λ x. node_of (shape_at l.shapes x.0) x) (take l.label-index l.labels)
