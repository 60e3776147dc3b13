use Rattle.source_images.proofs.Common.{AlikeInTables, InAll, KeepsFiles, LearnsOnly, files_told, tables_told}
use Rattle.source_images.proofs.TableReads.{AreRead}
use Rattle.source_images.proofs.reading.read_tables.Given as goal

abbrev pub invariant-loop-number : goal.invariant-loop-number
invariant-loop-number g l =
    let told = g.F.Files.told in
    let faults = g.F.Files.faults in
    record {
      kept : KeepsFiles told faults l.fn.files l.files;
      learned : LearnsOnly told (AlikeInTables (files_told l.tables)) l.fn.files l.files;
      read : InAll (told l.files) (λ m. AreRead m l.file (tables_told l.tables) l.number l.readings);
    }
