use Rattle.adl_flatten.proofs.Common.{domains, drop, filter_map, home, leaf_in, length, map, pointed, ◌++◌, ◌≡◌, ◌≤◌}
use Rattle.adl_flatten.proofs.Homes.{all_met}
use Rattle.adl_flatten.proofs.leaves.flat_leaves.Given as goal

abbrev pub invariant-loop-leaf : goal.invariant-loop-leaf
invariant-loop-leaf l = record {
  paths : all_met (pointed l.paths.keys) (filter_map (home l.program) (drop l.leaf-index l.leaves)) ≡ domains l.program;
  count : length l.paths.keys ≤ l.leaf-index;
  leaves : l.flat ++ map (leaf_in l.program (domains l.program)) (drop l.leaf-index l.leaves) ≡ map
      (leaf_in l.program (domains l.program)) l.leaves;
}
