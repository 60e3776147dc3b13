use Rattle.adl_ast.proofs.Common.{assembly_line, composition_line, configuration_line, deep_front, file_line, nested_line, token_code, value_line}
use Rattle.adl_ast.proofs.laws.fronts_begin_within.Goals as goal

pub returns-clause-file : goal.returns-clause-file
returns-clause-file c = λ n a b. deep_front token_code nested_line n file_line a b

pub returns-clause-value : goal.returns-clause-value
returns-clause-value c = λ n a b. deep_front token_code nested_line n value_line a b

pub returns-clause-composition : goal.returns-clause-composition
returns-clause-composition c = λ n a b. deep_front token_code nested_line n composition_line a b

pub returns-clause-configuration : goal.returns-clause-configuration
returns-clause-configuration c = λ n a b. deep_front token_code nested_line n configuration_line a b

pub returns-clause-assembly : goal.returns-clause-assembly
returns-clause-assembly c = λ n a b. deep_front token_code nested_line n assembly_line a b
