-- The section tables of a source: one for each type of its software, beside the root. What is found under their names is what
-- the contents have.
use Rattle.std.specs.Prelude.{◌≡◌, ◌+◌, ◌++◌, ◌==◌, ℕ, Bool, nat_lt, if◌then◌else◌, List, [], ◌∷◌, map, length, codes, Option, Some, None}
use Rattle.source_images.specs.Below.{Contents, Flat, IsIn, Source, get, list_any}
use Rattle.cam_io.specs.Reading.{HaveSameFront}
use Rattle.source_images.specs.Types.{Name, types}

-- the greatest length of a table, in bytes
abbrev pub table_limit : ℕ
table_limit = 1048576

abbrev pub is_slash : ℕ → Bool
is_slash b = b == 47

-- the folder of a file: the bytes of its name up to the last slash
abbrev pub folder_of : List ℕ → List ℕ
folder_of [] = []
folder_of (b ∷ bs) = if list_any is_slash (b ∷ bs) then b ∷ folder_of bs else []

-- of a type, in a folder
abbrev pub table_name : List ℕ → Name → List ℕ
table_name folder name = folder ++ name ++ codes ".sections"

-- those of a source whose root is the file of this name
abbrev pub table_names : List ℕ → Source → Flat → List (List ℕ)
table_names root source flat = map (table_name (folder_of root)) (types source flat)

-- what is found under a table's name
pub data Found : Type 0 where
  absent : Found
  too_long : Found
  table : List ℕ → Found

abbrev pub found_bytes : Option (List ℕ) → Found
found_bytes None = absent
found_bytes (Some bytes) = if nat_lt table_limit (length bytes) then too_long else table bytes

-- what the contents have under each name
abbrev pub found_in : Contents → List (List ℕ) → List Found
found_in m names = map (λ name. found_bytes (get m name)) names

-- what they have under the names of a source's tables
abbrev pub found_of : Contents → List ℕ → Source → Flat → List Found
found_of m root source flat = found_in m (table_names root source flat)

-- both contents have the same table of this name, as far as it is read: up to the limit, and a byte more
abbrev pub AlikeAsRead : List ℕ → Contents → Contents → Type 0
AlikeAsRead name = HaveSameFront name (table_limit + 1)

-- the same of each of these names
abbrev pub AlikeInTables : List (List ℕ) → Contents → Contents → Type 0
AlikeInTables names m n = (name : List ℕ) → IsIn name names → AlikeAsRead name m n

-- this is found under the names: what the contents have
abbrev pub AreFound : Contents → List (List ℕ) → List Found → Type 0
AreFound contents names all = all ≡ found_in contents names
