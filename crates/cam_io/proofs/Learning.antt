-- What is learned over several calls.
use Rattle.cam_io.proofs.Common.{Contents, HaveSameFront, KeepsFiles, LearnsOnly, List, get, ℕ, ◌≤◌}
use Rattle.cam_io.proofs.Seeing.{fewer_same}

-- after a read of no more than the first bytes of a file, no more is learned than these
pub learned_more : {F : Type 0} (told : F → Contents → Type 0) (faults : F → List ℕ → ℕ) (first before now : F) (name : List ℕ)
    (less count : ℕ)
    → LearnsOnly told (HaveSameFront name count) first before → KeepsFiles told faults before now
    → LearnsOnly told (HaveSameFront name less) before now → less ≤ count
    → LearnsOnly told (HaveSameFront name count) first now
learned_more told faults first before now name less count so_far kept read few m n new old same =
    read m n new (so_far m n (kept.told_still m new) old same) (fewer_same less count (get m name) (get n name) few same)
