use Rattle.adl_ast.proofs.Common.{assembly_line, begun_front, composition_line, configuration_line, file_line, nested_line, token_code, value_line}
use Rattle.adl_ast.proofs.laws.fronts_begin.Goals as goal

pub returns-clause-file : goal.returns-clause-file
returns-clause-file c = begun_front token_code nested_line file_line

pub returns-clause-value : goal.returns-clause-value
returns-clause-value c = begun_front token_code nested_line value_line

pub returns-clause-composition : goal.returns-clause-composition
returns-clause-composition c = begun_front token_code nested_line composition_line

pub returns-clause-configuration : goal.returns-clause-configuration
returns-clause-configuration c = begun_front token_code nested_line configuration_line

pub returns-clause-assembly : goal.returns-clause-assembly
returns-clause-assembly c = begun_front token_code nested_line assembly_line
