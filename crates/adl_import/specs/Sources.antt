-- The files of a source, in the order of their numbers.
use Rattle.std.specs.Prelude.{◌≡◌, ◌<◌, ◌≤◌, ◌+◌, ℕ, Bool, not, if◌then◌else◌, List, [], ◌∷◌, ◌++◌, length, map, filter, Option, Some, None, IsTrue}
use Rattle.adl_import.specs.Below.{Contents, Import, IsFileSpelled, Lexes, Place, SourceFile, Token, bytes_eq, flat_map, get, list_any, see}
use Rattle.cam_io.specs.Reading.{HaveSameFront}
use Rattle.adl_import.specs.Imports.{imports_of, is_built_in, name_given}

-- the greatest length of a file, in bytes
abbrev pub file_limit : ℕ
file_limit = 1048576

-- both contents have the same file of this name, as far as it is read: up to the limit, and a byte more
abbrev pub AlikeAsRead : List ℕ → Contents → Contents → Type 0
AlikeAsRead name = HaveSameFront name (file_limit + 1)

-- the greatest number of files
abbrev pub files_limit : ℕ
files_limit = 64

-- A meeting: the name of a file, and the place of the import that gives it.
abbrev pub Meeting : Type 0
Meeting = List ℕ × Place

-- the root is met at the beginning of file 0
abbrev pub root_place : Place
root_place = record { file = 0; first = 0; end = 0 }

abbrev pub meeting_at : Place → Option (List ℕ) → List Meeting
meeting_at place None = []
meeting_at place (Some name) = (name, place) ∷ []

abbrev pub meeting_of : List ℕ → List ℕ → Import → List Meeting
meeting_of root own import = if is_built_in import then [] else meeting_at import.place (name_given root own import)

-- the meetings that the imports of a file give, in source order
abbrev pub meetings_of : List ℕ → SourceFile → List Meeting
meetings_of root file = flat_map (meeting_of root file.name) (imports_of file.tree)

-- of each name the first meeting
abbrev pub firsts : List Meeting → List Meeting
firsts [] = []
firsts (m ∷ ms) = m ∷ filter (λ n. not (bytes_eq m.0 n.0)) (firsts ms)

abbrev pub is_known : List Meeting → List ℕ → Bool
is_known known name = list_any (λ m. bytes_eq name m.0) known

-- the files that are met by the root and by these files' imports, each at its first meeting
abbrev pub met : List ℕ → List SourceFile → List Meeting
met root files = firsts ((root, root_place) ∷ flat_map (meetings_of root) files)

abbrev pub names : List Meeting → List (List ℕ)
names = map (λ m. m.0)

-- The file of a number: its bytes are those that the contents have under its name; there are no more than the limit; and its
-- tree spells their tokens under the number.
pub record IsFileOf (m : Contents) (number : ℕ) (file : SourceFile) : Type 0 where
  pub held : get m file.name ≡ Some file.bytes
  pub size : length file.bytes ≤ file_limit
  pub tokens : List Token
  pub lexed : Lexes number file.bytes tokens
  pub spelled : IsFileSpelled file.tree (see file.bytes tokens)

-- each of these files is the one of its number
abbrev pub AreFilesOf : Contents → List SourceFile → Type 0
AreFilesOf m files = (before after : List SourceFile) (file : SourceFile) → files ≡ before ++ file ∷ after
    → IsFileOf m (length before) file

-- The files are the source of a root: their names are the root's, followed by those that their imports give in source
-- order, leaving out each name that is in the list already; and each but the first is given by an import of a file
-- before it.
pub record IsSource (root : List ℕ) (files : List SourceFile) : Type 0 where
  pub equation : map (λ f. f.name) files ≡ names (met root files)
  pub reached : (before after : List SourceFile) (file : SourceFile) → files ≡ before ++ file ∷ after → 0 < length before
      → IsTrue (is_known (flat_map (meetings_of root) before) file.name)
