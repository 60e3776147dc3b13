use Rattle.boot_plan.proofs.Common.{needed, take, ◌*◌, ◌≡◌, ◌≤◌}
use Rattle.boot_plan.proofs.room.bytes_needed.Given as goal

abbrev pub invariant-loop-need : goal.invariant-loop-need
invariant-loop-need l = record {
  so_far : l.total ≡ needed l.least (take l.need-index l.needs);
  few : l.total ≤ l.need-index * 1048576;
}
