use Rattle.cap_model.proofs.Common.{AreShared, take, ◌*◌, ◌≡◌}
use Rattle.cap_model.proofs.shared.shared_rows.Given as goal

abbrev pub invariant-loop-label : goal.invariant-loop-label
invariant-loop-label l = record {
  first : l.first ≡ l.label-index * l.count;
  rows : AreShared (take l.label-index l.labels) l.count l.rows.items;
}
