use Rattle.front_end.proofs.Within.{few_labels, sound_within}
use Rattle.front_end.proofs.laws.meanings_are_within.Goals as goal

pub returns-clause-within : goal.returns-clause-within
returns-clause-within c = sound_within

pub returns-clause-labels : goal.returns-clause-labels
returns-clause-labels c = few_labels
