use Rattle.capdl_text.proofs.Common.{length}
use Rattle.capdl_text.proofs.OneLexeme.{one_list}
use Rattle.capdl_text.proofs.lexer_laws.tokens_are_one.Goals as goal

pub returns : goal.returns
returns c = λ bytes ts us l m. one_list (length bytes) bytes ts us l m
