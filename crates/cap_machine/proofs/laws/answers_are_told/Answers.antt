use Rattle.cap_machine.proofs.Common.{lit<, refl}
use Rattle.cap_machine.proofs.laws.answers_are_told.Goals as goal

pub returns-clause-kept : goal.returns-clause-kept
returns-clause-kept c = record { few = lit< tt; names = refl; objects = refl; lines = refl }

pub returns-clause-answers : goal.returns-clause-answers
returns-clause-answers c = refl
