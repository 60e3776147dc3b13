use Rattle.name_tables.proofs.Common.{drop, found, map, shown, ◌≡◌}
use Rattle.name_tables.proofs.names.among.Given as goal

abbrev pub invariant-loop-entry : goal.invariant-loop-entry
invariant-loop-entry g l = found (map shown (drop l.entry-index l.entries)) l.name ≡ found (map shown l.entries) l.name
