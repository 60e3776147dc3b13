use Rattle.page_tables.proofs.Common.{replicate, ◌++◌, ◌≡◌}
use Rattle.page_tables.proofs.counts.push_levels.Given as goal

abbrev pub invariant-loop : goal.invariant-loop
invariant-loop l = l.levels ≡ l.fn.levels ++ replicate l.counter l.level
