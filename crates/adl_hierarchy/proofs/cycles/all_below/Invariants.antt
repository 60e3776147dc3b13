use Rattle.adl_hierarchy.proofs.Common.{has, true, ℕ, ◌<◌, ◌≡◌}
use Rattle.adl_hierarchy.proofs.cycles.all_below.Given as goal

abbrev pub invariant-loop-number : goal.invariant-loop-number
invariant-loop-number l = (x : ℕ) → has l.numbers.items x ≡ true → x < l.size
