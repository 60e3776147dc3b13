use Rattle.camkes_tool.proofs.Statuses.{exact_status, one_status, sound_or_faulty, usage_alone}
use Rattle.camkes_tool.proofs.laws.statuses_are_exact.Goals as goal

pub returns-clause-exact : goal.returns-clause-exact
returns-clause-exact c = exact_status

pub returns-clause-one : goal.returns-clause-one
returns-clause-one c = one_status

pub returns-clause-apart : goal.returns-clause-apart
returns-clause-apart c = sound_or_faulty

pub returns-clause-usage : goal.returns-clause-usage
returns-clause-usage c = usage_alone
