use Rattle.cam_io.proofs.Common.{HaveSameFront, InAll, KeepsFiles, LearnsOnly, length, ◌+◌, ◌-◌, ◌≤◌}
use Rattle.std.specs.FinMap as map
use Rattle.cam_io.proofs.Fronts.{IsFront}
use Rattle.cam_io.proofs.whole.read_by_chunks.Given as goal

abbrev pub invariant-loop-whole : goal.invariant-loop-whole
invariant-loop-whole g l =
    let told = g.F.Files.told in
    let faults = g.F.Files.faults in
    record {
      within : length l.whole ≤ l.limit;
      kept : KeepsFiles told faults l.fn.files l.files;
      so_far : InAll (told l.files) (λ m. IsFront (map.get m l.name) l.whole);
      learned : LearnsOnly told (HaveSameFront l.name (l.limit + 1)) l.fn.files l.files;
    }

abbrev pub decreases-loop-whole : goal.decreases-loop-whole
decreases-loop-whole g l = l.limit - length l.whole
