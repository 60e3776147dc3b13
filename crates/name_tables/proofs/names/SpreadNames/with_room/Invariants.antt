use Rattle.name_tables.proofs.Common.{[], replicate, ◌≡◌}
use Rattle.name_tables.proofs.names.SpreadNames.with_room.Given as goal

abbrev pub invariant-loop : goal.invariant-loop
invariant-loop g l = l.places.items ≡ replicate l.counter []
