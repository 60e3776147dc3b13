use Rattle.cap_audit.proofs.RunsWithin.{runs_within}
use Rattle.cap_audit.proofs.spread_laws.runs_lie_in_the_spread.Goals as goal

pub returns : goal.returns
returns c = λ spec run s none leads. runs_within spec run s none leads
