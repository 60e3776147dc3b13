use Rattle.boot_plan.proofs.Common.{first_bad, length, lines_left, regions_in, ◌++◌, ◌≡◌}
use Rattle.boot_plan.proofs.Reading.{Sound}
use Rattle.boot_plan.proofs.read.read_regions.Given as goal

abbrev pub invariant-loop-line : goal.invariant-loop-line
invariant-loop-line l = record {
  bad : first_bad (length l.regions) (lines_left l.line-iterator) ≡ first_bad 0 (lines_left l.fn.lines);
  sound : Sound l.regions;
  regions : l.regions ++ regions_in (lines_left l.line-iterator) ≡ regions_in (lines_left l.fn.lines);
}
