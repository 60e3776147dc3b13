use Rattle.cert_check.proofs.Common.{AreOthers, length, ◌-◌, ◌≤◌}
use Rattle.cert_check.proofs.places.next_of.Given as goal

abbrev pub invariant-loop-at : goal.invariant-loop-at
invariant-loop-at l = record {
  on : l.from ≤ l.at;
  others : AreOthers l.cert l.authority l.from l.at;
}

abbrev pub decreases-loop-at : goal.decreases-loop-at
decreases-loop-at l = length l.cert - l.at
