use Rattle.view_tool.proofs.PageCommon.{codes, flat_map, mark_in, take, ◌++◌, ◌≡◌}
use Rattle.view_tool.proofs.matrix.add_cell.Given as goal

abbrev pub invariant-loop-mark : goal.invariant-loop-mark
invariant-loop-mark l = l.text ≡ (l.fn.text ++ codes "<td>") ++ flat_map (mark_in l.column.0) (take l.mark-index l.row)
