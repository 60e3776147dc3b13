use Rattle.capdl_write.proofs.Whole.{canonical_text}
use Rattle.capdl_write.proofs.laws.canonical_is_text.Goals as goal

pub returns : goal.returns
returns c = canonical_text
