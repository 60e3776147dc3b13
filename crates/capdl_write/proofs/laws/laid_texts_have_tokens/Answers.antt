use Rattle.capdl_write.proofs.Common.{laid, length}
use Rattle.capdl_write.proofs.Laying.{laid_lexes}
use Rattle.capdl_write.proofs.laws.laid_texts_have_tokens.Goals as goal

pub returns : goal.returns
returns c = λ ps f. laid_lexes (length (laid ps)) ps f
