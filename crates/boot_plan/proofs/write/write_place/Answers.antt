use Rattle.boot_plan.proofs.Common.{says_nothing}
use Rattle.boot_plan.proofs.write.write_place.Goals as goal

pub returns-in_default : goal.returns-in_default
returns-in_default g c = rw c.in_default.is says_nothing
