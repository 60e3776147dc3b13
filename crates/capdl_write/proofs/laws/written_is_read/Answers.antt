use Rattle.capdl_write.proofs.Common.{canonical}
use Rattle.capdl_text.proofs.Answered.{read_text}
use Rattle.capdl_write.proofs.Whole.{canonical_text}
use Rattle.capdl_write.proofs.laws.written_is_read.Goals as goal

pub returns : goal.returns
returns c = λ spec r w h. read_text (canonical spec) spec r h (canonical_text spec w)
