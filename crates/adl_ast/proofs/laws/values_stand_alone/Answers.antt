use Rattle.adl_ast.proofs.Common.{nested_line, one_form, opens, token_code, value_line}
use Rattle.adl_ast.proofs.Decides.{nested_is, value_decides, value_closed}
use Rattle.adl_ast.proofs.laws.values_stand_alone.Goals as goal

pub returns : goal.returns
returns c = one_form token_code nested_line opens nested_is value_line value_decides value_closed
