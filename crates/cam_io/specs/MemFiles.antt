-- What files in memory hold, and their counts of faults.
use Rattle.std.specs.Prelude.{◌≡◌, ℕ, cond, List}
use Rattle.cam_io.specs.Causes.{one_more}
use Rattle.cam_io.specs.Contents.{Contents}
use Rattle.cam_io.specs.NamedFiles.{contents_of, count_of, counts_for}
use Rattle.cam_io.specs.declared.mem_files.MemFiles.{MemFiles}

-- the bytes of each name
abbrev pub held : MemFiles → Contents
held m = contents_of m.files.items

-- these are the contents
abbrev pub IsHeld : MemFiles → Contents → Type 0
IsHeld m contents = contents ≡ held m

-- how many reads there were
abbrev pub calls : MemFiles → ℕ
calls m = m.calls

-- the numbers of the reads that fail
abbrev pub failing : MemFiles → List ℕ
failing m = m.failing

-- how often reads of a name have failed
abbrev pub counts : MemFiles → List ℕ → ℕ
counts m = count_of m.files.items m.others

-- one fault of a name was counted, and nothing else
abbrev pub CountsFault : Contents → List ℕ → (List ℕ → ℕ) → (List ℕ → ℕ) → Type 0
CountsFault contents name before now = (r : List ℕ) → now r ≡ cond (counts_for contents name r) (one_more (before r)) (before r)
