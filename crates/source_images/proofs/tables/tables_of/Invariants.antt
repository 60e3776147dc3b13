use Rattle.source_images.proofs.Common.{map, names_told, table_at, tables_told, take, ◌≡◌}
use Rattle.source_images.proofs.tables.tables_of.Given as goal

abbrev pub invariant-loop-name : goal.invariant-loop-name
invariant-loop-name l = tables_told l.tables.items ≡ map (table_at l.folder) (names_told (take l.name-index l.names))
