use Rattle.boot_plan.proofs.Common.{length, one_placed, sum_by, take, zip, ◌≡◌, ◌≤◌}
use Rattle.boot_plan.proofs.write.objects_placed.Given as goal

abbrev pub invariant-loop-place : goal.invariant-loop-place
invariant-loop-place l = record {
  so_far : l.total ≡ sum_by one_placed (take (length l.yielded) (zip l.spec.entries l.places));
  few : l.total ≤ length l.yielded;
}
