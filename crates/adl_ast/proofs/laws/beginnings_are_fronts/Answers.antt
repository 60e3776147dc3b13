use Rattle.adl_ast.proofs.Common.{assembly_line, begun_is_front, composition_line, configuration_line, file_line, nested_line, token_code, true, value_line}
use Rattle.adl_ast.proofs.Spellings.{samples, nested_spellable, file_parts, value_parts, composition_parts, configuration_parts, assembly_parts}
use Rattle.adl_ast.proofs.laws.beginnings_are_fronts.Goals as goal

pub returns-clause-file : goal.returns-clause-file
returns-clause-file c = begun_is_front token_code samples true nested_line (λ e. nested_spellable) file_line file_parts

pub returns-clause-value : goal.returns-clause-value
returns-clause-value c = begun_is_front token_code samples true nested_line (λ e. nested_spellable) value_line value_parts

pub returns-clause-composition : goal.returns-clause-composition
returns-clause-composition c = begun_is_front token_code samples true nested_line (λ e. nested_spellable) composition_line
    composition_parts

pub returns-clause-configuration : goal.returns-clause-configuration
returns-clause-configuration c = begun_is_front token_code samples true nested_line (λ e. nested_spellable) configuration_line
    configuration_parts

pub returns-clause-assembly : goal.returns-clause-assembly
returns-clause-assembly c = begun_is_front token_code samples true nested_line (λ e. nested_spellable) assembly_line
    assembly_parts
