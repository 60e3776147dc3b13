use Rattle.front_laws.proofs.Repeating.{from_duplicates, in_duplicates}
use Rattle.front_laws.proofs.laws.duplicates_are_names_again.Goals as goal

pub returns : goal.returns
returns c = λ s f. (from_duplicates s f, in_duplicates s f)
