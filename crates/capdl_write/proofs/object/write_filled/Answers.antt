use Rattle.capdl_write.proofs.Common.{says_then}
use Rattle.capdl_write.proofs.object.write_filled.Goals as goal

pub returns : goal.returns
returns g c =
    says_then (says_then (says_then c.texts.ensures c.write_paddr.ensures) c.write_fill.ensures) c.text.ensures
