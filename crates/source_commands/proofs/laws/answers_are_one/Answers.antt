use Rattle.source_commands.proofs.OneAnswer.{one_explained, one_listing}
use Rattle.source_commands.proofs.laws.answers_are_one.Goals as goal

pub returns-clause-listed : goal.returns-clause-listed
returns-clause-listed c = λ root m old new later last a b p q x y. one_listing m root old new later last a b p q x y

pub returns-clause-explained : goal.returns-clause-explained
returns-clause-explained c = λ from authority to root m old new later last a b p q x y. one_explained m root from authority to old
    new later last a b p q x y
