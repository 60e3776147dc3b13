use Rattle.boot_plan.proofs.Common.{had, length, slice_index, take, ℕ, ◌*◌, ◌<◌, ◌≡◌, ◌≤◌}
use Rattle.boot_plan.proofs.pack.bases.Given as goal

abbrev pub invariant-loop-region : goal.invariant-loop-region
invariant-loop-region l = record {
  so_far : l.base ≡ had 0 (take l.region-index l.regions);
  few : l.base ≤ l.region-index * 140737488355328;
  count : length l.bases.items ≡ l.region-index;
  each : (k : ℕ) → k < l.region-index → slice_index l.bases.items k ≡ had 0 (take k l.regions);
}
