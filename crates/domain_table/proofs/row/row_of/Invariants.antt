use Rattle.domain_table.proofs.Common.{map, take, ◌≡◌}
use Rattle.domain_table.proofs.row.row_of.Given as goal

abbrev pub invariant-loop-cell : goal.invariant-loop-cell
invariant-loop-cell l = l.row ≡ map (λ c. c.now) (take l.cell-index l.cells)
