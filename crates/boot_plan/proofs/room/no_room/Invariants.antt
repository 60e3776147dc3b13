use Rattle.boot_plan.proofs.Common.{had, needed, ℕ, ◌+◌, ◌<◌, ◌≤◌}
use Rattle.boot_plan.proofs.room.no_room.Given as goal

abbrev pub invariant-loop-less : goal.invariant-loop-less
invariant-loop-less l = (least : ℕ) → 20 < least + l.less → needed least l.needs ≤ had least l.regions
