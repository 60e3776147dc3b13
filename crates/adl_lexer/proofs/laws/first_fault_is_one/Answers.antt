use Rattle.adl_lexer.proofs.Unique.{one_fault}
use Rattle.adl_lexer.proofs.laws.first_fault_is_one.Goals as goal

pub returns : goal.returns
returns c = one_fault
