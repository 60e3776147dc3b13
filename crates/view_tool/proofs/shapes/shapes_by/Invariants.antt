use Rattle.view_tool.proofs.PageCommon.{map, shape_of, take, ◌≡◌}
use Rattle.view_tool.proofs.shapes.shapes_by.Given as goal

abbrev pub invariant-loop-label : goal.invariant-loop-label
invariant-loop-label l = l.shapes ≡ map (λ x. shape_of l.domains l.devices x.1) (take l.label-index l.labels)
