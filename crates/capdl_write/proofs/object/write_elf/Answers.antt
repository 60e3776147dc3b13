use Rattle.capdl_write.proofs.Common.{says_nothing}
use Rattle.capdl_write.proofs.object.write_elf.Goals as goal

pub returns-in-None : goal.returns-in-None
returns-in-None g c = rw c.in-None.is says_nothing
