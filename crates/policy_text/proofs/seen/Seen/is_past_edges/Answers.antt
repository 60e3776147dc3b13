use Rattle.policy_text.proofs.Common.{ap, is_none, sym}
use Rattle.policy_text.proofs.Taking.{none_past}
use Rattle.policy_text.proofs.seen.Seen.is_past_edges.Goals as goal

pub returns-in-None : goal.returns-in-None
returns-in-None c = λ before seen room. sym (none_past before c.args.text.now (room (ap is_none c.in-None.is)))
