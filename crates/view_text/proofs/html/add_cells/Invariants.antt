use Rattle.view_text.proofs.Common.{codes, flat_map, tagged, take, ◌++◌, ◌≡◌}
use Rattle.view_text.proofs.html.add_cells.Given as goal

abbrev pub invariant-loop-cell : goal.invariant-loop-cell
invariant-loop-cell l = l.text ≡ l.fn.text ++ flat_map (tagged (codes "td")) (take l.cell-index l.cells)
