use Rattle.boot_plan.proofs.Common.{IsSetOf, [], device_refusal, take, ◌≡◌}
use Rattle.boot_plan.proofs.Pages.{pages, refusal_from}
use Rattle.boot_plan.proofs.device.device_refusal.Given as goal

abbrev pub invariant-loop-frame : goal.invariant-loop-frame
invariant-loop-frame l = record {
  set : IsSetOf (pages (take l.frame l.needs)) l.seen;
  refusal : refusal_from l.regions l.needs l.frame ≡ device_refusal l.regions [] 0 l.needs;
}
