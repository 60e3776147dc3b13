use Rattle.page_tables.proofs.Running.{under_start}
use Rattle.page_tables.proofs.shape.is_under.Goals as goal

pub returns-then-start-at : goal.returns-then-start-at
returns-then-start-at c = λ a e. under_start c.args.span c.args.start a c.args.at c.requires e c.if-start-at.true
