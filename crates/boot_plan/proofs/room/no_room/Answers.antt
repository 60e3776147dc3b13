use Rattle.boot_plan.proofs.Common.{arith}
use Rattle.boot_plan.proofs.Usual.{none_needed}
use Rattle.boot_plan.proofs.room.no_room.Goals as goal

pub loop-less-init : goal.loop-less-init
loop-less-init c = λ least h. let e = none_needed least c.args.needs.now c.requires.usual (omega arith) in omega (arith, e)
