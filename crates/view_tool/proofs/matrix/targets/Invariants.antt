use Rattle.view_tool.proofs.PageCommon.{flat_map, is_target, take, where_true, ◌≡◌}
use Rattle.view_tool.proofs.matrix.targets.Given as goal

abbrev pub invariant-loop-label : goal.invariant-loop-label
invariant-loop-label l = l.found ≡ flat_map (λ x. where_true (is_target l.marks x.0) x) (take l.label-index l.labels)
