use Rattle.adl_parse.proofs.Common.{last_place, length, ◌≡◌}
use Rattle.adl_parse.proofs.dotted.last_place.Given as goal

abbrev pub invariant-loop-rest : goal.invariant-loop-rest
invariant-loop-rest l = last_place l.last l.rest ≡ last_place l.fn.place l.ids

abbrev pub decreases-loop-rest : goal.decreases-loop-rest
decreases-loop-rest l = length l.rest
