use Rattle.boot_plan.proofs.Common.{had, take, ◌*◌, ◌≡◌, ◌≤◌}
use Rattle.boot_plan.proofs.room.bytes_had.Given as goal

abbrev pub invariant-loop-region : goal.invariant-loop-region
invariant-loop-region l = record {
  so_far : l.total ≡ had l.least (take l.region-index l.regions);
  few : l.total ≤ l.region-index * 140737488355328;
}
