-- Which import of a file is refused: the first, of no built-in name, whose path names no file, or that gives a new name where
-- as many names are met as there may be files. The names that are met are those in front of this file's imports, and those that
-- its imports in front of this one give; these are all taken.
use Rattle.std.specs.Prelude.{◌≡◌, ◌<◌, ◌≤◌, ◌⊎◌, ℕ, true, false, List, [], ◌∷◌, ◌++◌, codes, length, map, None, Some}
use Rattle.std.specs.List.{flat_map}
use Rattle.adl_ast.specs.declared.file.Import.{Import}
use Rattle.adl_import.specs.Imports.{is_built_in, name_given}
use Rattle.adl_import.specs.Sources.{Meeting, files_limit, firsts, meeting_of}
use Rattle.adl_import.specs.Turns.{fault_at}
use Rattle.cam_base.specs.declared.code.Code.TheVariants.{BadPath, Limit}
use Rattle.cam_base.specs.declared.place.Fault.{Fault}
use Rattle.cam_base.specs.Gather.{IsIn}

-- what is met in front of an import
abbrev pub met_before : List ℕ → List ℕ → List Meeting → List Import → List Meeting
met_before root own ms before = ms ++ flat_map (meeting_of root own) before

-- it gives a name that isn't met, where there is no room for one more
pub record IsOneMore (root own : List ℕ) (ms : List Meeting) (before : List Import) (import : Import) : Type 0 where
  pub name : List ℕ
  pub gives : name_given root own import ≡ Some name
  pub new : IsIn name (map (λ m. m.0) (met_before root own ms before)) → ⊥
  pub full : files_limit ≤ length (firsts (met_before root own ms before))

-- It is of a built-in name, or gives a name that is met, or a new one where there is room.
pub data IsTaken (root own : List ℕ) (ms : List Meeting) (import : Import) : Type 0 where
  of_built_in_name : is_built_in import ≡ true → IsTaken root own ms import
  of_met_name : (name : List ℕ) → is_built_in import ≡ false → name_given root own import ≡ Some name
      → IsIn name (map (λ m. m.0) ms) → IsTaken root own ms import
  of_new_name : (name : List ℕ) → is_built_in import ≡ false → name_given root own import ≡ Some name
      → length (firsts ms) < files_limit → IsTaken root own ms import

pub record IsRefusedImport (root own : List ℕ) (ms : List Meeting) (imports : List Import) (f : Fault) : Type 0 where
  pub before : List Import
  pub import : Import
  pub after : List Import
  pub split : imports ≡ before ++ import ∷ after
  pub front : (p q : List Import) (i : Import) → before ≡ p ++ i ∷ q → IsTaken root own (met_before root own ms p) i
  pub other : is_built_in import ≡ false
  pub why : ((name_given root own import ≡ None) × (f ≡ fault_at BadPath import.place []))
      ⊎ (IsOneMore root own ms before import × (f ≡ fault_at Limit import.place (codes "files")))
