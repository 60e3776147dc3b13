use Rattle.capdl_text.proofs.Common.{length}
use Rattle.capdl_text.proofs.OneLexeme.{no_fault_reached}
use Rattle.capdl_text.proofs.lexer_laws.tokens_have_no_fault.Goals as goal

pub returns : goal.returns
returns c = λ bytes ts f l p. no_fault_reached (length bytes) bytes p.rest ts (f.code, p.text) l p.reached p.stands
