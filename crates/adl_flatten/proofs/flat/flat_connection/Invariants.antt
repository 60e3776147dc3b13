use Rattle.adl_flatten.proofs.Common.{drop, flat_end_of, map, ◌++◌, ◌≡◌}
use Rattle.adl_flatten.proofs.flat.flat_connection.Given as goal

abbrev pub invariant-loop-end : goal.invariant-loop-end
invariant-loop-end l = l.ends ++ map flat_end_of (drop l.end-index l.end-items) ≡ map flat_end_of l.end-items
