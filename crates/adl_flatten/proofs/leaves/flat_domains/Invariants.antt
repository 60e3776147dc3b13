use Rattle.adl_flatten.proofs.Common.{drop, filled, map, ◌++◌, ◌≡◌}
use Rattle.adl_flatten.proofs.Homes.{empty_at}
use Rattle.adl_flatten.proofs.leaves.flat_domains.Given as goal

abbrev pub invariant-loop-path : goal.invariant-loop-path
invariant-loop-path l = l.domains.items ++ map empty_at (drop l.path-index l.paths) ≡ map empty_at l.paths

abbrev pub invariant-loop-number : goal.invariant-loop-number
invariant-loop-number l = filled l.number (drop l.number l.leaves) l.domains.items ≡ filled 0 l.leaves (map empty_at l.paths)
