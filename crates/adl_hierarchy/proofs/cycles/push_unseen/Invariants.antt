use Rattle.adl_hierarchy.proofs.Common.{has, true, ℕ, ◌<◌, ◌≡◌}
use Rattle.adl_hierarchy.proofs.cycles.push_unseen.Given as goal

abbrev pub invariant-loop-number : goal.invariant-loop-number
invariant-loop-number l = (x : ℕ) → has l.waiting.items x ≡ true → x < l.seen.size
