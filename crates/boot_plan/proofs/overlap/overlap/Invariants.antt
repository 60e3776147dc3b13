use Rattle.boot_plan.proofs.Common.{drop, first_overlap, overlap_behind, take, ◌≡◌}
use Rattle.boot_plan.proofs.overlap.overlap.Given as goal

abbrev pub invariant-loop-second : goal.invariant-loop-second
invariant-loop-second l = overlap_behind (take l.second l.regions) (drop l.second l.regions) ≡ first_overlap l.regions
