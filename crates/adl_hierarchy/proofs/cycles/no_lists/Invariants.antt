use Rattle.adl_hierarchy.proofs.Common.{false, has, inner_of, length, ℕ, ◌≡◌}
use Rattle.adl_hierarchy.proofs.cycles.no_lists.Given as goal

abbrev pub invariant-loop-list : goal.invariant-loop-list
invariant-loop-list l = record {
  len : length l.lists.items ≡ l._list;
  none : (c a : ℕ) → has (inner_of l.lists.items c) a ≡ false;
}
