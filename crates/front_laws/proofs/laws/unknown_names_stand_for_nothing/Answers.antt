use Rattle.front_laws.proofs.UnknownNames.{from_unknown, in_unknown}
use Rattle.front_laws.proofs.laws.unknown_names_stand_for_nothing.Goals as goal

pub returns : goal.returns
returns c = λ s f. (from_unknown s f, in_unknown s f)
