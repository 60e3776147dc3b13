use Rattle.adl_hierarchy.proofs.Common.{get_or, has, take, true, ℕ, ◌<◌, ◌≡◌, ◌⊎◌}
use Rattle.adl_hierarchy.proofs.cycles.rises_at.Given as goal

abbrev pub invariant-loop-number : goal.invariant-loop-number
invariant-loop-number l = (c : ℕ) → has (take l.number-index l.inner) c ≡ true
    → (get_or l.roots c 0 ≡ l.root) ⊎ (get_or l.ranks l.root 0 < get_or l.ranks (get_or l.roots c 0) 0)
