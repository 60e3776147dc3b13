use Rattle.text_commands.proofs.OneAnswer.{audited_one, certified_one, checked_one, planned_one, ran_one, tabled_one}
use Rattle.text_commands.proofs.laws.answers_are_one.Goals as goal

pub returns-clause-checked : goal.returns-clause-checked
returns-clause-checked c = checked_one

pub returns-clause-ran : goal.returns-clause-ran
returns-clause-ran c = ran_one

pub returns-clause-tabled : goal.returns-clause-tabled
returns-clause-tabled c = tabled_one

pub returns-clause-certified : goal.returns-clause-certified
returns-clause-certified c = certified_one

pub returns-clause-audited : goal.returns-clause-audited
returns-clause-audited c = audited_one

pub returns-clause-planned : goal.returns-clause-planned
returns-clause-planned c = planned_one
