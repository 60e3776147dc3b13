use Rattle.front_end.proofs.OneAnswer.{one_front, one_meaning}
use Rattle.front_end.proofs.laws.answers_are_one.Goals as goal

pub returns-clause-meaning : goal.returns-clause-meaning
returns-clause-meaning c = one_meaning

pub returns-clause-front : goal.returns-clause-front
returns-clause-front c = one_front
