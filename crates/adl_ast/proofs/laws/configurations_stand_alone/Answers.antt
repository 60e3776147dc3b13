use Rattle.adl_ast.proofs.Common.{configuration_line, nested_line, one_form, opens, token_code}
use Rattle.adl_ast.proofs.Decides.{nested_is, configuration_decides, configuration_closed}
use Rattle.adl_ast.proofs.laws.configurations_stand_alone.Goals as goal

pub returns : goal.returns
returns c = one_form token_code nested_line opens nested_is configuration_line configuration_decides configuration_closed
