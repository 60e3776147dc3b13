use Rattle.view_tool.proofs.PageCommon.{file_row, map, take, ◌≡◌}
use Rattle.view_tool.proofs.page.file_rows.Given as goal

abbrev pub invariant-loop-file : goal.invariant-loop-file
invariant-loop-file l = l.rows ≡ map file_row (take l.file-index l.file-items)
