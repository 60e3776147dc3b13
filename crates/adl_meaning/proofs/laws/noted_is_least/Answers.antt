use Rattle.adl_meaning.proofs.Least.{noted-append, noted-none}
use Rattle.adl_meaning.proofs.laws.noted_is_least.Goals as goal

pub returns-clause-both : goal.returns-clause-both
returns-clause-both c = noted-append

pub returns-clause-least : goal.returns-clause-least
returns-clause-least c = noted-none
