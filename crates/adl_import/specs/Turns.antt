-- The turns of the files. A turn reads the file, lexes it, parses it, and takes its imports in order. Each of these may
-- find a fault, and the first fault of the first turn that has one is the fault of the source.
use Rattle.std.specs.Prelude.{◌≡◌, ◌<◌, ◌≤◌, ℕ, Bool, nat_lt, if◌then◌else◌, List, [], ◌∷◌, ◌++◌, length, slice_get, Option, None, Some, Result, Ok, Err, codes}
use Rattle.adl_import.specs.Below.{BadPath, Contents, Fault, Import, IsFileIn, IsFirstFault, Lexes, Limit, NoFile, Place, SourceFile, Token, get, option_map_or}
use Rattle.cam_base.specs.declared.code.Code.{Code}
use Rattle.cam_base.specs.declared.error.Refused.TheVariants as refused
use Rattle.adl_import.specs.Imports.{imports_of, is_built_in, name_given}
use Rattle.adl_import.specs.Sources.{Meeting, IsFileOf, is_known, root_place, file_limit, files_limit}

abbrev pub fault_at : Code → Place → List ℕ → Fault
fault_at code place name = record { code = code; place = place; name = name }

-- what comes of an Ok; an Err stays
abbrev pub and_then : {A B E : Type 0} → (A → Result B E) → Result A E → Result B E
and_then f (Ok a) = f a
and_then f (Err e) = Err e

-- a known name stays as it is; a new one is met, while there is room for a file more
abbrev pub meet : List Meeting → Place → List ℕ → Result (List Meeting) Fault
meet known place name =
    if is_known known name then Ok known
    else (if nat_lt (length known) files_limit then Ok (known ++ (name, place) ∷ []) else Err
    (fault_at Limit place (codes "files")))

abbrev pub meet_given : List Meeting → Place → Option (List ℕ) → Result (List Meeting) Fault
meet_given known place None = Err (fault_at BadPath place [])
meet_given known place (Some name) = meet known place name

-- what is known after an import of the file `own`, or the import's fault
abbrev pub take_import : List ℕ → List ℕ → List Meeting → Import → Result (List Meeting) Fault
take_import root own known import = if is_built_in import then Ok known else meet_given known import.place
    (name_given root own import)

-- what is known after all these imports, or the first fault
abbrev pub take_imports : List ℕ → List ℕ → List Meeting → List Import → Result (List Meeting) Fault
take_imports root own known [] = Ok known
take_imports root own known (import ∷ imports) = and_then (λ more. take_imports root own more imports)
    (take_import root own known import)

-- After the root is met, and then after a turn without a fault of each of these files in order, this is known.
pub data Turns (m : Contents) (root : List ℕ) : List SourceFile → List Meeting → Type 0 where
  first : Turns m root [] ((root, root_place) ∷ [])
  next : {files : List SourceFile} {known after : List Meeting} {file : SourceFile} {place : Place}
      → Turns m root files known → slice_get known (length files) ≡ Some (file.name, place)
      → IsFileOf m (length files) file → take_imports root file.name known (imports_of file.tree) ≡ Ok after
      → Turns m root (files ++ file ∷ []) after

-- the name of the file in which a file is met; the root is met in itself
abbrev pub met_in : List SourceFile → List ℕ → Place → List ℕ
met_in files name place = option_map_or (λ f. f.name) (slice_get files place.file) name

-- The fault of the reading of the file of this number, name and place, after the files, and the name of the file in
-- which it stands.
pub data IsReadFault (m : Contents) (files : List SourceFile) (name : List ℕ) (place : Place) : Fault → List ℕ → Type 0 where
  absent : get m name ≡ None → IsReadFault m files name place (fault_at NoFile place name) (met_in files name place)
  too_long : {bytes : List ℕ} → get m name ≡ Some bytes → file_limit < length bytes
      → IsReadFault m files name place (fault_at Limit place (codes "file size")) (met_in files name place)
  lexing : {bytes : List ℕ} {f : Fault} → get m name ≡ Some bytes → length bytes ≤ file_limit
      → IsFirstFault (length files) bytes f
      → IsReadFault m files name place f name
  parsing : {bytes : List ℕ} (tokens : List Token) {f : Fault} → get m name ≡ Some bytes → length bytes ≤ file_limit
      → Lexes (length files) bytes tokens → IsFileIn bytes tokens (Err (refused.Fault f)) → IsReadFault m files name place f name

-- The fault of a turn: of the reading, lexing and parsing, or else of the imports.
pub data IsTurnFault (m : Contents) (root : List ℕ) (files : List SourceFile) (known : List Meeting) (name : List ℕ)
    (place : Place) : Fault → List ℕ → Type 0 where
  reading : {f : Fault} {in_file : List ℕ} → IsReadFault m files name place f in_file
      → IsTurnFault m root files known name place f in_file
  importing : {file : SourceFile} {f : Fault} → file.name ≡ name → IsFileOf m (length files) file
      → take_imports root name known (imports_of file.tree) ≡ Err f → IsTurnFault m root files known name place f name
