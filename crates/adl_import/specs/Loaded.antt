-- What loading a source answers. The cases exclude each other, so each comes exactly where it says, and yields to a
-- failed read and to want of memory alone.
use Rattle.std.specs.Prelude.{◌≡◌, ◌≤◌, ℕ, Bool, true, false, List, [], length, slice_get, Option, None, Some, Result, Ok, Err}
use Rattle.adl_import.specs.Below.{BadPath, Contents, Fault, Place, SourceError, SourceFile}
use Rattle.adl_ast.specs.declared.source.Source.{Source}
use Rattle.adl_import.specs.Folding.{root_name}
use Rattle.adl_import.specs.Sources.{Meeting, AlikeAsRead, IsSource, root_place}
use Rattle.adl_import.specs.Turns.{Turns, IsTurnFault, fault_at}
use Rattle.cam_base.specs.declared.error.Unread.TheVariants as error

-- The files are the source of the root: each has had its turn, none with a fault, and no file is left.
pub record IsClean (m : Contents) (root : List ℕ) (files : List SourceFile) : Type 0 where
  pub source : IsSource root files
  pub known : List Meeting
  pub turns : Turns m root files known
  pub all : length known ≡ length files

-- The turn of a file of this name and place comes next, after turns of other files without a fault.
pub record IsTurnOf (m : Contents) (root name : List ℕ) : Type 0 where
  pub files : List SourceFile
  pub known : List Meeting
  pub place : Place
  pub turns : Turns m root files known
  pub next : slice_get known (length files) ≡ Some (name, place)

-- both contents have the same files, as far as they are read, under each name whose turn comes
abbrev pub AlikeInTurns : List ℕ → Contents → Contents → Type 0
AlikeInTurns root m n = (name : List ℕ) → IsTurnOf m root name → AlikeAsRead name m n

-- The first turn with a fault has this one, in the file of this name.
pub record IsFirst (m : Contents) (root : List ℕ) (fault : Fault) (in_file : List ℕ) : Type 0 where
  pub name : List ℕ
  pub turn : IsTurnOf m root name
  pub stands : IsTurnFault m root turn.files turn.known name turn.place fault in_file

-- the answer for a root of this name
abbrev pub IsLoadedFrom : Contents → List ℕ → Result Source SourceError → Type 0
IsLoadedFrom m root (Ok source) = IsClean m root source.files
IsLoadedFrom m root (Err (error.Fault fault in_file)) = IsFirst m root fault in_file
IsLoadedFrom m root (Err (error.ReadFault name)) = IsTurnOf m root name
IsLoadedFrom m root (Err error.NoMemory) = Unit {0}

-- the answer for a root, as it is written, whose name is refused
abbrev pub IsRefusedRoot : List ℕ → Result Source SourceError → Type 0
IsRefusedRoot root (Ok source) = ⊥
IsRefusedRoot root (Err (error.Fault fault in_file)) = (fault ≡ fault_at BadPath root_place []) × (in_file ≡ root)
IsRefusedRoot root (Err (error.ReadFault name)) = ⊥
IsRefusedRoot root (Err error.NoMemory) = Unit {0}

abbrev pub IsLoadedBy : Contents → List ℕ → Option (List ℕ) → Result Source SourceError → Type 0
IsLoadedBy m root None result = IsRefusedRoot root result
IsLoadedBy m root (Some name) result = IsLoadedFrom m name result

-- the answer for a root, as it is written
abbrev pub IsLoaded : Contents → List ℕ → Result Source SourceError → Type 0
IsLoaded m root result = IsLoadedBy m root (root_name root) result

-- the same for a root, as it is written
abbrev pub AlikeInSource : List ℕ → Contents → Contents → Type 0
AlikeInSource root m n = (name : List ℕ) → root_name root ≡ Some name → AlikeInTurns name m n
