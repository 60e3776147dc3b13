use Rattle.adl_hierarchy.proofs.Common.{false, has, inner_of, length, ℕ, ◌≡◌}
use Rattle.adl_hierarchy.proofs.placing.Placing.new.Given as goal

abbrev pub invariant-loop : goal.invariant-loop
invariant-loop l = record {
  len : length l.waiting.items ≡ l.index;
  none : (c a : ℕ) → has (inner_of l.waiting.items c) a ≡ false;
}
