use Rattle.adl_parse.proofs.Common.{assembly_line, composition_line, configuration_line, value_line}
use Rattle.adl_parse.proofs.Parts.{one_fault}
use Rattle.adl_parse.proofs.laws.part_faults_are_one.Goals as goal

pub returns-clause-value : goal.returns-clause-value
returns-clause-value c = one_fault value_line

pub returns-clause-composition : goal.returns-clause-composition
returns-clause-composition c = one_fault composition_line

pub returns-clause-configuration : goal.returns-clause-configuration
returns-clause-configuration c = one_fault configuration_line

pub returns-clause-assembly : goal.returns-clause-assembly
returns-clause-assembly c = one_fault assembly_line
