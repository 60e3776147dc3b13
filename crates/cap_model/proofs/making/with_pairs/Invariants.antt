use Rattle.cap_model.proofs.Common.{map, pair_of, take, ◌++◌, ◌≡◌}
use Rattle.cap_model.proofs.making.with_pairs.Given as goal

abbrev pub invariant-loop-edge : goal.invariant-loop-edge
invariant-loop-edge l = l.pairs.items ≡ l.fn.pairs.items ++ map pair_of (take l.edge-index l.run)
