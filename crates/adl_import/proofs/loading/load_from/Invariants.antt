use Rattle.adl_import.proofs.Common.{AlikeInTurns, InAll, KeepsFiles, LearnsOnly, Turns, files_limit, length, ◌-◌}
use Rattle.adl_import.proofs.loading.load_from.Given as goal

abbrev pub invariant-loop-room : goal.invariant-loop-room
invariant-loop-room g l =
    let told = g.F.Files.told in
    let faults = g.F.Files.faults in
    record {
      turns : InAll (told l.files) (λ m. Turns m l.top l.done l.known.entries);
      kept : KeepsFiles told faults l.fn.files l.files;
      learned : LearnsOnly told (AlikeInTurns l.fn.root) l.fn.files l.files;
    }

abbrev pub decreases-loop-room : goal.decreases-loop-room
decreases-loop-room g l = files_limit - length l.done
