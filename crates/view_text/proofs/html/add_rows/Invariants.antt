use Rattle.view_text.proofs.Common.{codes, flat_map, table_row, take, ◌++◌, ◌≡◌}
use Rattle.view_text.proofs.html.add_rows.Given as goal

abbrev pub invariant-loop-row : goal.invariant-loop-row
invariant-loop-row l = l.text ≡ l.fn.text ++ flat_map (table_row (codes "td")) (take l.row-index l.rows)
