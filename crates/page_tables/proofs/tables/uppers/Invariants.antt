use Rattle.page_tables.proofs.Common.{drop, length, runs, span, take, uppers, ◌≡◌}
use Rattle.page_tables.proofs.tables.uppers.Given as goal

abbrev pub invariant-loop-rest : goal.invariant-loop-rest
invariant-loop-rest l = record {
  left : runs (span l.shape) l.rest ≡ drop (length l.found) (runs (span l.shape) l.mappings);
  so_far : l.found ≡ uppers l.shape (take (length l.found) (runs (span l.shape) l.mappings));
}

abbrev pub decreases-loop-rest : goal.decreases-loop-rest
decreases-loop-rest l = length l.rest
