use Rattle.view_tool.proofs.PageCommon.{cell_text, flat_map, take, ◌++◌, ◌≡◌}
use Rattle.view_tool.proofs.matrix.add_cells.Given as goal

abbrev pub invariant-loop-column : goal.invariant-loop-column
invariant-loop-column l = l.text ≡ l.fn.text ++ flat_map (cell_text l.row) (take l.column-index l.columns)
