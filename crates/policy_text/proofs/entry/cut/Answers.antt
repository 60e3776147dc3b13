use Rattle.policy_text.proofs.Common.{sym}
use Rattle.policy_text.proofs.Cutting.{cut_some, cut_none}
use Rattle.policy_text.proofs.entry.cut.Goals as goal

pub returns-in-Some : goal.returns-in-Some
returns-in-Some c = cut_some c.args.text.now c.in-Some.at (sym c.in-Some.ensures.first)

pub returns-in-None : goal.returns-in-None
returns-in-None c = cut_none c.args.text.now (sym c.in-None.ensures.first)
