use Rattle.adl_hierarchy.proofs.Common.{has, length, true, ℕ, ◌<◌, ◌≡◌}
use Rattle.adl_hierarchy.proofs.cycles.leaving_order.Given as goal

abbrev pub invariant-loop-step : goal.invariant-loop-step
invariant-loop-step l = record {
  seen : l.seen.size ≡ length l.graph;
  left : l.left.size ≡ length l.graph;
  waiting : (x : ℕ) → has l.waiting.items x ≡ true → x < length l.graph;
}
