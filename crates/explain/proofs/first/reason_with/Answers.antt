use Rattle.explain.proofs.Common.{told}
use Rattle.explain.proofs.Stages.{reasoned_first}
use Rattle.explain.proofs.first.reason_with.Goals as goal

pub returns : goal.returns
returns c = reasoned_first (told c.args.tables.now) c.args.edge c.in_ok-reason.reason c.if-edge.false c.in_ok-reason.ensures
