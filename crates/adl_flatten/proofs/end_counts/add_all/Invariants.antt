use Rattle.adl_flatten.proofs.Common.{count_by, false, joins, seen_at, take, tally, ◌≡◌, ◌≤◌}
use Rattle.adl_flatten.specs.declared.end_counts.EndKey.{EndKey}
use Rattle.adl_flatten.proofs.end_counts.add_all.Given as goal

abbrev pub invariant-loop-end : goal.invariant-loop-end
invariant-loop-end l = record {
  seen : (k : EndKey) → seen_at l.seen.entries k ≡ tally (count_by (joins k) (take l.end-index l.ends));
  once : l.several ≡ false → (k : EndKey) → count_by (joins k) (take l.end-index l.ends) ≤ 1;
}
