use Rattle.adl_hierarchy.proofs.Common.{has, inner_of, length, true, ℕ, ◌<◌, ◌≡◌}
use Rattle.adl_hierarchy.proofs.cycles.turned.Given as goal

abbrev pub invariant-loop-component : goal.invariant-loop-component
invariant-loop-component l = record {
  size : length l.outer.items ≡ length l.graph;
  edges : (c a : ℕ) → has (inner_of l.outer.items c) a ≡ true → (a < l.component) × (has (inner_of l.graph a) c ≡ true);
}
