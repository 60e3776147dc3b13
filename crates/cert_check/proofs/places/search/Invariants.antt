use Rattle.cert_check.proofs.Common.{Halved, ◌-◌}
use Rattle.cert_check.proofs.places.search.Given as goal

abbrev pub invariant-loop-low : goal.invariant-loop-low
invariant-loop-low l = Halved l.cert l.edge l.low l.high

abbrev pub decreases-loop-low : goal.decreases-loop-low
decreases-loop-low l = l.high - l.low
