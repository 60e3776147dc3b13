-- Paths of files, folded. A path is split at `/`; empty parts and `.` are dropped; `..` removes the part before it,
-- unless there is none or it is `..` itself, and is then kept in a relative path. An absolute path can't be left
-- upwards. A folded path names a file unless it has no part or its last part is `..`.
use Rattle.std.specs.Prelude.{◌≡◌, ℕ, Bool, false, not, leb, ◌==◌, ◌&&◌, ◌||◌, if◌then◌else◌, List, [], ◌∷◌, ◌++◌, length, drop, reverse, Option, None, Some, Result, Ok, Err}
use Rattle.adl_import.specs.Below.{Refused, bytes_eq, is_utf8, join_with_byte, list_all, option_and_then, slice_split}
use Rattle.cam_base.specs.declared.error.Refused.TheVariants as refused
use Rattle.adl_import.specs.declared.folding.BadPath.{BadPath}

abbrev pub is_slash : ℕ → Bool
is_slash b = b == 47

-- `..`
abbrev pub up : List ℕ
up = 46 ∷ 46 ∷ []

abbrev pub is_up : List ℕ → Bool
is_up part = bytes_eq part up

-- an empty part, or `.`
abbrev pub is_dropped : List ℕ → Bool
is_dropped part = length part == 0 || bytes_eq part (46 ∷ [])

-- Parts are kept from the innermost outwards. Whether the innermost is there and isn't `..`.
abbrev pub is_in_folder : List (List ℕ) → Bool
is_in_folder [] = false
is_in_folder (part ∷ parts) = not (is_up part)

-- one step up from the parts: none where it leaves an absolute path
abbrev pub one_up : Bool → List (List ℕ) → Option (List (List ℕ))
one_up absolute parts = if is_in_folder parts then Some (drop 1 parts) else (if absolute then None else Some (up ∷ parts))

-- the parts with one more of the path
abbrev pub with_part : Bool → List (List ℕ) → List ℕ → Option (List (List ℕ))
with_part absolute parts part =
    if is_dropped part then Some parts else (if is_up part then one_up absolute parts else Some (part ∷ parts))

-- the parts with all these of the path
abbrev pub with_parts : Bool → List (List ℕ) → List (List ℕ) → Option (List (List ℕ))
with_parts absolute parts [] = Some parts
with_parts absolute parts (part ∷ more) = option_and_then (λ next. with_parts absolute next more) (with_part absolute parts part)

abbrev pub path_text : Bool → List (List ℕ) → List ℕ
path_text absolute parts = (if absolute then 47 ∷ [] else []) ++ join_with_byte 47 (reverse parts)

-- the path of these parts, where they name a file
abbrev pub file_path : Bool → List (List ℕ) → Option (List ℕ)
file_path absolute parts = if is_in_folder parts then Some (path_text absolute parts) else None

abbrev pub is_absolute : List ℕ → Bool
is_absolute [] = false
is_absolute (b ∷ bs) = is_slash b

-- a path folded: none where it names no file
abbrev pub folded : List ℕ → Option (List ℕ)
folded path = option_and_then (file_path (is_absolute path)) (with_parts (is_absolute path) [] (slice_split is_slash path))

-- a path in a folder; the empty folder adds nothing
abbrev pub in_folder : List ℕ → List ℕ → List ℕ
in_folder [] path = path
in_folder (b ∷ bs) path = (b ∷ bs) ++ 47 ∷ path

-- UTF-8 without control bytes
abbrev pub is_plain : List ℕ → Bool
is_plain path = list_all (λ b. leb 32 b) path && is_utf8 path

-- an import's path isn't empty and begins with no slash
abbrev pub is_import_path : List ℕ → Bool
is_import_path [] = false
is_import_path (b ∷ bs) = not (is_slash b) && is_plain (b ∷ bs)

-- the name of the file that an import's path gives in a folder
abbrev pub import_name : List ℕ → List ℕ → Option (List ℕ)
import_name folder path = if is_import_path path then folded (in_folder folder path) else None

-- the name of a root
abbrev pub root_name : List ℕ → Option (List ℕ)
root_name root = if is_plain root then folded root else None

-- The answer is the name; or there is none; or memory ran out.
abbrev pub IsFolded : Option (List ℕ) → Result (List ℕ) (Refused BadPath) → Type 0
IsFolded name (Ok text) = name ≡ Some text
IsFolded name (Err (refused.Fault e)) = name ≡ None
IsFolded name (Err refused.NoMemory) = Unit {0}
