use Rattle.adl_hierarchy.proofs.Common.{IsPlacing, Waits, length, ℕ, ◌-◌, ◌<◌}
use Rattle.adl_hierarchy.proofs.order.place_all.Given as goal

abbrev pub invariant-loop-index : goal.invariant-loop-index
invariant-loop-index l = record {
  placing : IsPlacing l.graph l.placing;
  waits : (x : ℕ) → x < length l.graph → Waits l.graph l.index l.placing x;
}

abbrev pub decreases-loop-index : goal.decreases-loop-index
decreases-loop-index l = length l.graph - l.index
