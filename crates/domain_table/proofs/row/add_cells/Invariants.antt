use Rattle.domain_table.proofs.Common.{cell, flat_map, take, ◌++◌, ◌≡◌}
use Rattle.domain_table.proofs.row.add_cells.Given as goal

abbrev pub invariant-loop-cell : goal.invariant-loop-cell
invariant-loop-cell l = l.text ≡ l.fn.text ++ flat_map cell (take l.cell-index l.cells)
