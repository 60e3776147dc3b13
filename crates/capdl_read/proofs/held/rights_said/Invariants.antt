use Rattle.capdl_read.proofs.Common.{drop, rights_said, ◌≡◌}
use Rattle.capdl_read.proofs.held.rights_said.Given as goal

abbrev pub invariant-loop-param : goal.invariant-loop-param
invariant-loop-param l = rights_said (drop l.param-index l.params) ≡ rights_said l.params
