use Rattle.adl_hierarchy.proofs.Common.{has, true, ℕ, ◌<◌, ◌≡◌}
use Rattle.adl_hierarchy.proofs.number_set.NumberSet.is_full.Given as goal

abbrev pub invariant-loop-number : goal.invariant-loop-number
invariant-loop-number l = (x : ℕ) → x < l.number → has l.self.list x ≡ true
