use Rattle.boot_plan.proofs.Common.{bytes_placed, length, sum_by, take, zip, ◌*◌, ◌≡◌, ◌≤◌}
use Rattle.boot_plan.proofs.write.bytes_placed.Given as goal

abbrev pub invariant-loop-entry : goal.invariant-loop-entry
invariant-loop-entry l = record {
  so_far : l.total ≡ sum_by (bytes_placed l.spec.arch) (take (length l.yielded) (zip l.spec.entries l.places));
  few : l.total ≤ 1048576 * length l.yielded;
}
