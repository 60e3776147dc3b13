use Rattle.page_tables.proofs.Common.{drop, first_run, front, head_of, length, ◌+◌, ◌≡◌}
use Rattle.page_tables.proofs.runs.first_count.Given as goal

abbrev pub invariant-loop-count : goal.invariant-loop-count
invariant-loop-count l = l.count + length (front l.span (head_of l.span l.mappings) (drop l.count l.mappings)) ≡ length
    (first_run l.span l.mappings)
