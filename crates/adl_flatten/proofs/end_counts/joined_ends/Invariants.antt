use Rattle.adl_flatten.proofs.Common.{all_joined, drop, enumerate_from, flat_map, joined_end_of, joined_of, map, ◌++◌, ◌+◌, ◌≡◌}
use Rattle.adl_flatten.proofs.end_counts.joined_ends.Given as goal

abbrev pub invariant-loop-connection : goal.invariant-loop-connection
invariant-loop-connection l = l.ends.items ++ flat_map joined_of (enumerate_from l.connection (drop l.connection l.connections))
    ≡ all_joined l.connections

abbrev pub invariant-loop-placed : goal.invariant-loop-placed
invariant-loop-placed l =
    l.ends.items ++ (map (joined_end_of l.connection) (drop l.placed-index l.placed-items)
    ++ flat_map joined_of (enumerate_from (l.connection + 1) (drop (l.connection + 1) l.connections)))
    ≡ all_joined l.connections
