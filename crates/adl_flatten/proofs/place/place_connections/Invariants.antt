use Rattle.adl_flatten.proofs.TemplateCommon.{drop, map, moved_connection, moved_end, name_of, ◌++◌, ◌≡◌}
use Rattle.adl_flatten.proofs.place.place_connections.Given as goal

abbrev pub invariant-loop-connection : goal.invariant-loop-connection
invariant-loop-connection l =
    l.connections.items ++ map (moved_connection (name_of l.part) l.before) (drop l.connection-index l.inner)
    ≡ l.fn.connections.items ++ map (moved_connection (name_of l.part) l.before) l.inner

abbrev pub invariant-loop-end : goal.invariant-loop-end
invariant-loop-end l = l.ends.items ++ map (moved_end l.before) (drop l.end-index l.end-items) ≡ map
    (moved_end l.before) l.end-items
