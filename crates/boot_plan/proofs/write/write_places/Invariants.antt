use Rattle.boot_plan.proofs.Common.{flat_map, length, place_line, take, zip}
use Rattle.boot_plan.proofs.write.write_places.Given as goal
use Rattle.cam_io.specs.Saying.{Says}

abbrev pub invariant-loop-entry : goal.invariant-loop-entry
invariant-loop-entry g l =
    Says l.fn.to (flat_map (place_line l.spec.arch) (take (length l.yielded) (zip l.spec.entries l.places))) l.to
