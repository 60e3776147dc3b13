use Rattle.adl_ast.proofs.Common.{assembly_line, nested_line, one_form, opens, token_code}
use Rattle.adl_ast.proofs.Decides.{nested_is, assembly_decides, assembly_closed}
use Rattle.adl_ast.proofs.laws.assemblies_stand_alone.Goals as goal

pub returns : goal.returns
returns c = one_form token_code nested_line opens nested_is assembly_line assembly_decides assembly_closed
