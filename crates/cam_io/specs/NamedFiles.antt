-- Files in memory as a list: the first file of a name is the name's.
use Rattle.std.specs.Prelude.{ℕ, Bool, not, cond, List, [], ◌∷◌, map, Option, None, Some}
use Rattle.std.specs.Str.{bytes_eq}
use Rattle.std.specs.FinMap.{from_entries, contains_key}
use Rattle.cam_io.specs.Contents.{Contents}
use Rattle.cam_io.specs.declared.named_file.NamedFile.{NamedFile}

-- the file of a name
abbrev pub lookup : List NamedFile → List ℕ → Option NamedFile
lookup [] name = None
lookup (f ∷ fs) name = cond (bytes_eq name f.name) (Some f) (lookup fs name)

-- the same files with this one in the name's place
abbrev pub replaced : List NamedFile → List ℕ → NamedFile → List NamedFile
replaced [] name g = []
replaced (f ∷ fs) name g = cond (bytes_eq name f.name) (g ∷ fs) (f ∷ replaced fs name g)

-- what each name has
unfoldable pub contents_of : List NamedFile → Contents
contents_of fs = from_entries (map (λ f. (f.name, f.bytes)) fs)

abbrev pub count_at : ℕ → Option NamedFile → ℕ
count_at others None = others
count_at others (Some f) = f.faults

-- how often reads of a name have failed: its file's count, or without a file the one of all other names
abbrev pub count_of : List NamedFile → ℕ → List ℕ → ℕ
count_of fs others name = count_at others (lookup fs name)

-- whether a fault of one name counts for another: a name that has a file counts for itself alone, and one that has none
-- for all names without a file
abbrev pub counts_for : Contents → List ℕ → List ℕ → Bool
counts_for contents name other = cond (contains_key contents name) (bytes_eq other name) (not (contains_key contents other))
