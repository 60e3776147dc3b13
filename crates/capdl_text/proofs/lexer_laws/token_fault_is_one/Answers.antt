use Rattle.capdl_text.proofs.OneLexeme.{one_fault}
use Rattle.capdl_text.proofs.lexer_laws.token_fault_is_one.Goals as goal

pub returns : goal.returns
returns c = one_fault
