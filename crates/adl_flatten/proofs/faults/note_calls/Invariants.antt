use Rattle.adl_flatten.proofs.Common.{drop, flat_map, misplaced_call, noted, ◌≡◌}
use Rattle.adl_flatten.proofs.faults.note_calls.Given as goal

abbrev pub invariant-loop-connection : goal.invariant-loop-connection
invariant-loop-connection l = noted l.first (flat_map (misplaced_call l.leaves) (drop l.connection-index l.connections)) ≡ noted
    l.fn.first (flat_map (misplaced_call l.leaves) l.connections)
