use Rattle.page_tables.proofs.Common.{CanLinkAll, length, map, runs, span, table_of, ◌++◌, ◌≡◌}
use Rattle.page_tables.proofs.tables.push_level.Given as goal

abbrev pub invariant-loop-rest : goal.invariant-loop-rest
invariant-loop-rest l = record {
  links : CanLinkAll l.link l.rest;
  so_far : l.objects ++ map (table_of l.shape l.link) (runs (span l.shape) l.rest) ≡ l.fn.objects
      ++ map (table_of l.shape l.link) (runs (span l.shape) l.mappings);
}

abbrev pub decreases-loop-rest : goal.decreases-loop-rest
decreases-loop-rest l = length l.rest
