use Rattle.name_tables.proofs.Common.{drop, found, ◌≡◌}
use Rattle.name_tables.proofs.by_name.among.Given as goal

abbrev pub invariant-loop-entry : goal.invariant-loop-entry
invariant-loop-entry g l = found (drop l.entry-index l.entries) l.bytes ≡ found l.entries l.bytes
