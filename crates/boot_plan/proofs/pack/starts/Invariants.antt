use Rattle.boot_plan.proofs.Common.{length, needed, slice_index, ℕ, ◌+◌, ◌<◌, ◌≡◌}
use Rattle.boot_plan.proofs.pack.starts.Given as goal

abbrev pub invariant-loop-bits : goal.invariant-loop-bits
invariant-loop-bits l = record {
  count : length l.starts.items ≡ l.bits;
  each : (k : ℕ) → k < l.bits → slice_index l.starts.items k ≡ needed (k + 1) l.needs;
}
