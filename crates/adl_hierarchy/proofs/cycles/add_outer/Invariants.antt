use Rattle.adl_hierarchy.proofs.Common.{has, inner_of, length, true, ℕ, ◌≡◌, ◌⊎◌}
use Rattle.adl_hierarchy.proofs.cycles.add_outer.Given as goal

abbrev pub invariant-loop-number : goal.invariant-loop-number
invariant-loop-number l = record {
  size : length l.outer.items ≡ length l.fn.outer.items;
  edges : (c a : ℕ) → has (inner_of l.outer.items c) a ≡ true → ((a ≡ l.component) × (has l.inner c ≡ true))
      ⊎ (has (inner_of l.fn.outer.items c) a ≡ true);
}
