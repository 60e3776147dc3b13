use Rattle.system_spec.proofs.Common.{PageTable, [], counts_in, gather, table_part, take, ◌∷◌, ◌≡◌}
use Rattle.system_spec.proofs.levels.table_parts.Given as goal

abbrev pub invariant-loop-table : goal.invariant-loop-table
invariant-loop-table l = record {
  so_far : l.parts ≡ gather (λ m (x : PageTable). table_part l.tables m x ∷ []) (take l.table-index l.tables);
  counts : l.counts ≡ counts_in (take l.table-index l.tables);
}
