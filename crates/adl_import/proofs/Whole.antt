-- What a loaded source is, whatever its contents.
use Rattle.adl_import.proofs.Common.{AreFilesOf, Contents, IsClean, List, Meeting, SourceFile, Turns, [], ap, arith, files_limit, length, ℕ, ◌<◌, ◌∷◌, ◌≡◌, ◌≤◌}
use Rattle.adl_import.proofs.Firsts.{turns_meet}
use Rattle.adl_import.proofs.Turning.{turns_few}
use Rattle.adl_import.proofs.Unique.{turns_each}

turns_some : (m : Contents) (root : List ℕ) (files : List SourceFile) (known : List Meeting) → Turns m root files known
    → length known ≡ length files → 0 < length files
turns_some m root [] known turns e = let one : length known ≡ 1 = ap length (turns_meet m root [] known turns) in
    absurd (omega arith)
turns_some m root (f ∷ fs) known turns e = omega arith

pub clean_some : (m : Contents) (root : List ℕ) (files : List SourceFile) → IsClean m root files → 0 < length files
clean_some m root files c = turns_some m root files c.known c.turns c.all

pub clean_few : (m : Contents) (root : List ℕ) (files : List SourceFile) → IsClean m root files → length files ≤ files_limit
clean_few m root files c = let few = turns_few m root files c.known c.turns in let all = c.all in omega arith

pub clean_each : (m : Contents) (root : List ℕ) (files : List SourceFile) → IsClean m root files → AreFilesOf m files
clean_each m root files c = turns_each m root files c.known c.turns
