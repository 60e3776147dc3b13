use Rattle.label_flow.proofs.Turning.{sources_closed}
use Rattle.label_flow.proofs.Passed.{flows_pass, none_apart}
use Rattle.label_flow.proofs.laws.chains_are_flows.Goals as goal

pub returns-clause-flows : goal.returns-clause-flows
returns-clause-flows c = flows_pass

pub returns-clause-none : goal.returns-clause-none
returns-clause-none c = none_apart

pub returns-clause-closed : goal.returns-clause-closed
returns-clause-closed c = sources_closed
