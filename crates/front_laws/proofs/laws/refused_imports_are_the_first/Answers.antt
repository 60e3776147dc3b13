use Rattle.front_laws.proofs.RefusedImports.{in_turn_refused, turn_refused}
use Rattle.front_laws.proofs.laws.refused_imports_are_the_first.Goals as goal

pub returns : goal.returns
returns c = λ m root files known turns file f. (
  turn_refused m root files known turns file f,
  in_turn_refused m root files known
      turns file f,
)
