use Rattle.boot_plan.proofs.Pages.{AreFound}
use Rattle.boot_plan.proofs.device.device_index.Given as goal

abbrev pub invariant-loop-region : goal.invariant-loop-region
invariant-loop-region l = AreFound l.regions l.region-index l.found.items
