use Rattle.cap_model.proofs.EdgeOrder.{at_most_self, at_most_trans, at_most_both, before_or_not, not_before_at_most, before_at_most}
use Rattle.cap_model.proofs.kinds.edges_are_ordered.Goals as goal

pub returns-clause-same : goal.returns-clause-same
returns-clause-same c = at_most_self

pub returns-clause-chain : goal.returns-clause-chain
returns-clause-chain c = at_most_trans

pub returns-clause-one : goal.returns-clause-one
returns-clause-one c = at_most_both

pub returns-clause-either : goal.returns-clause-either
returns-clause-either c = before_or_not

pub returns-clause-strict : goal.returns-clause-strict
returns-clause-strict c = not_before_at_most

pub returns-clause-weaker : goal.returns-clause-weaker
returns-clause-weaker c = before_at_most
