use Rattle.page_tables.proofs.Common.{drop, map, table_count, ◌+◌, ◌≡◌}
use Rattle.page_tables.proofs.counts.count_over.Given as goal

abbrev pub invariant-loop-shape : goal.invariant-loop-shape
invariant-loop-shape g l = l.count + table_count (drop l.shape-index l.shapes) (map g.T.Addressed.address l.mapped) ≡ table_count
    l.shapes (map g.T.Addressed.address l.mapped)
