use Rattle.adl_lexer.proofs.Common.{length}
use Rattle.adl_lexer.proofs.Unique.{one_list}
use Rattle.adl_lexer.proofs.laws.tokens_are_one.Goals as goal

pub returns : goal.returns
returns c = λ file bytes ts us l m. one_list file (length bytes) bytes ts us l m
