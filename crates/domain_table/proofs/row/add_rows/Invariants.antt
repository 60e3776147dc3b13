use Rattle.domain_table.proofs.Common.{flat_map, row_line, take, ◌++◌, ◌≡◌}
use Rattle.domain_table.proofs.row.add_rows.Given as goal

abbrev pub invariant-loop-row : goal.invariant-loop-row
invariant-loop-row l = l.text ≡ l.fn.text ++ flat_map row_line (take l.row-index l.rows)
