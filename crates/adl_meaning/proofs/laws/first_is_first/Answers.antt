use Rattle.adl_meaning.proofs.Least.{first_of, none_stands}
use Rattle.adl_meaning.proofs.laws.first_is_first.Goals as goal

pub returns-clause-first : goal.returns-clause-first
returns-clause-first c = first_of

pub returns-clause-none : goal.returns-clause-none
returns-clause-none c = none_stands
