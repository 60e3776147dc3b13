use Rattle.adl_lexer.proofs.Common.{length}
use Rattle.adl_lexer.proofs.Unique.{no_fault_reached}
use Rattle.adl_lexer.proofs.laws.tokens_have_no_fault.Goals as goal

pub returns : goal.returns
returns c = λ file bytes ts f l p. no_fault_reached file (length bytes) bytes p.rest ts (f.code, p.text) l p.reached p.stands
