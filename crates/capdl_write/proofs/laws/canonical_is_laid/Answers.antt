use Rattle.capdl_write.proofs.Lines.{all_laid}
use Rattle.capdl_write.proofs.laws.canonical_is_laid.Goals as goal

pub returns : goal.returns
returns c = all_laid
