use Rattle.cspace_layout.proofs.Common.{drop, keyword_in, ◌≡◌}
use Rattle.cspace_layout.proofs.limit.keyword_in.Given as goal

abbrev pub invariant-loop-ended : goal.invariant-loop-ended
invariant-loop-ended l = keyword_in (drop l.ended-index l.items) ≡ keyword_in l.items
