use Rattle.adl_hierarchy.proofs.Common.{get_or, has, inner_of, true, ℕ, ◌<◌, ◌≡◌, ◌⊎◌}
use Rattle.adl_hierarchy.proofs.cycles.rises.Given as goal

abbrev pub invariant-loop-component : goal.invariant-loop-component
invariant-loop-component l = (a c : ℕ) → a < l.component → has (inner_of l.graph a) c ≡ true
    → (get_or l.roots c 0 ≡ get_or l.roots a 0) ⊎ (get_or l.ranks (get_or l.roots a 0) 0 < get_or l.ranks (get_or l.roots c 0) 0)
