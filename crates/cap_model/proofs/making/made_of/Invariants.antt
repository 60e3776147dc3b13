use Rattle.cap_model.proofs.Common.{Edge, IsMade, Row, Some, length, slice_get, take, ℕ, ◌-◌, ◌<◌, ◌≡◌, ◌≤◌}
use Rattle.cap_model.proofs.making.made_of.Given as goal

abbrev pub invariant-loop-at : goal.invariant-loop-at
invariant-loop-at l = record {
  within : l.at ≤ length l.edges;
  made : IsMade (take l.at l.edges) l.made;
  below : (i j : ℕ) (r : Row) (d : Edge) → slice_get l.made.rows.items i ≡ Some r → l.at ≤ j → slice_get l.edges j ≡ Some d
      → r.label < d.from;
}

abbrev pub decreases-loop-at : goal.decreases-loop-at
decreases-loop-at l = length l.edges - l.at
