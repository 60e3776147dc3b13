use Rattle.capdl_read.proofs.Common.{badge_said, drop, ◌≡◌}
use Rattle.capdl_read.proofs.held.badge_said.Given as goal

abbrev pub invariant-loop-param : goal.invariant-loop-param
invariant-loop-param l = badge_said (drop l.param-index l.params) ≡ badge_said l.params
