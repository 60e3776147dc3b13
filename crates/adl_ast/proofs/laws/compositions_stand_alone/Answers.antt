use Rattle.adl_ast.proofs.Common.{composition_line, nested_line, one_form, opens, token_code}
use Rattle.adl_ast.proofs.Decides.{nested_is, composition_decides, composition_closed}
use Rattle.adl_ast.proofs.laws.compositions_stand_alone.Goals as goal

pub returns : goal.returns
returns c = one_form token_code nested_line opens nested_is composition_line composition_decides composition_closed
