use Rattle.adl_lexer.proofs.Common.{[], refl}
use Rattle.adl_lexer.proofs.Suffixes.{texts_of_kinds}
use Rattle.adl_lexer.proofs.laws.tokens_have_their_texts.Goals as goal

pub returns : goal.returns
returns c = λ file bytes ts l. texts_of_kinds file bytes bytes ts ([], refl) l
