use Rattle.front_laws.proofs.ToldFaults.{no_name, no_type, told_name, told_type}
use Rattle.front_laws.proofs.laws.told_faults_stand.Goals as goal

pub returns-clause-name : goal.returns-clause-name
returns-clause-name c = told_name

pub returns-clause-no_name : goal.returns-clause-no_name
returns-clause-no_name c = no_name

pub returns-clause-kind : goal.returns-clause-kind
returns-clause-kind c = told_type

pub returns-clause-no_kind : goal.returns-clause-no_kind
returns-clause-no_kind c = no_type
