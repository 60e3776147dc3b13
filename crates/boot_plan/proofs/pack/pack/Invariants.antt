use Rattle.boot_plan.proofs.Common.{AllFit, drop, packed, ◌++◌, ◌≡◌}
use Rattle.boot_plan.proofs.pack.pack.Given as goal

abbrev pub invariant-loop-need : goal.invariant-loop-need
invariant-loop-need l = record {
  fit : AllFit l.rooms.regions.items l.starts (drop l.need-index l.needs);
  so_far : l.places ++ packed l.rooms.regions.items l.starts (drop l.need-index l.needs) ≡ packed l.rooms.regions.items
      l.fn.starts l.needs;
}
