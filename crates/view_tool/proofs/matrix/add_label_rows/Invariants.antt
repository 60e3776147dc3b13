use Rattle.view_tool.proofs.PageCommon.{flat_map, label_row, take, ◌++◌, ◌≡◌}
use Rattle.view_tool.proofs.matrix.add_label_rows.Given as goal

abbrev pub invariant-loop-label : goal.invariant-loop-label
invariant-loop-label l = l.text ≡ l.fn.text ++ flat_map (label_row l.marks l.columns) (take l.label-index l.labels)
