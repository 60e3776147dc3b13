use Rattle.view_tool.proofs.PageCommon.{flat_map, take, where_true, ◌==◌, ◌≡◌}
use Rattle.view_tool.proofs.matrix.marks_from.Given as goal

abbrev pub invariant-loop-mark : goal.invariant-loop-mark
invariant-loop-mark l = l.found ≡ flat_map (λ m. where_true (m.edge.from == l.from) m) (take l.mark-index l.marks)
