use Rattle.adl_hierarchy.proofs.Common.{get_or, ℕ, ◌<◌, ◌≡◌}
use Rattle.adl_hierarchy.proofs.cycles.agree.Given as goal

abbrev pub invariant-loop-x : goal.invariant-loop-x
invariant-loop-x l = (k : ℕ) → k < l.x → (get_or l.roots k 0 < l.size) × (get_or l.roots k 0 ≡ get_or l.others k 0)
