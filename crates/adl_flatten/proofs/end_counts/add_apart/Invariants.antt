use Rattle.adl_flatten.proofs.Common.{count_by, joins, joins_apart, seen_at, take, tally, ◌+◌, ◌≡◌}
use Rattle.adl_flatten.specs.declared.end_counts.EndKey.{EndKey}
use Rattle.adl_flatten.proofs.end_counts.add_apart.Given as goal

abbrev pub invariant-loop-end : goal.invariant-loop-end
invariant-loop-end l = (k : EndKey)
    → seen_at l.seen.entries k ≡ tally (count_by (joins k) l.ends + count_by (joins_apart k) (take l.end-index l.ends))
