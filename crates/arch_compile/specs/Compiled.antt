-- What compiling answers. In given contents there is one answer, aside from failed reads and want of memory (`answers_are_one`
-- in src/laws.rt), so each comes exactly where it says.
use Rattle.std.specs.Prelude.{◌≡◌, ◌⊎◌, ℕ, List, Some, None, Result, Ok, Err}
use Rattle.arch_compile.specs.Below.{AlikeInTables, Contents, Fault, IsIn, Rose, Source, SourceError, first_front_fault}
use Rattle.adl_import.specs.Loaded.{AlikeInSource, IsLoaded}
use Rattle.arch_compile.specs.Built.{IsBuildOf}
use Rattle.arch_compile.specs.LayoutFaults.{file_of, first_layout_fault, found_beside, tables_beside}
use Rattle.arch_compile.specs.declared.building.Build.{Build}
use Rattle.front_end.specs.Refusals.{IsFaulted}
use Rattle.cam_base.specs.declared.error.Unread.TheVariants as error

-- with what the contents have under the names of the section tables of the source, this fault is the first behind the settings,
-- in the file of this name
pub record IsLayoutFault (contents : Contents) (source : Source) (fault : Fault) (file : List ℕ) : Type 0 where
  pub first : first_layout_fault source (found_beside contents source) ≡ Some fault
  pub named : file ≡ file_of source (found_beside contents source) fault.place.file

-- the root's source is loaded, without a fault up to the settings
pub record IsClean (root : List ℕ) (contents : Contents) (source : Source) : Type 0 where
  pub loaded : IsLoaded contents root (Ok source)
  pub none : first_front_fault source ≡ None

-- both contents have the same, as far as it is read, in the root's source, and in its section tables where it is without a fault
-- up to the settings
pub record AlikeInBuild (root : List ℕ) (m n : Contents) : Type 0 where
  pub source : AlikeInSource root m n
  pub tables : (source : Source) → IsClean root m source → AlikeInTables (tables_beside source) m n

-- the fault is the first: of the files, or of the phases up to the settings, or else behind the settings
abbrev pub IsFirstFault : List ℕ → Contents → Fault → List ℕ → Type 0
IsFirstFault root contents fault file =
    IsFaulted first_front_fault root contents fault file
    ⊎ ((source : Source) × IsClean root contents source × IsLayoutFault contents source fault file)

-- the file is one of the source, or a section table of a source without a fault up to the settings
abbrev pub IsUnread : List ℕ → Contents → List ℕ → Type 0
IsUnread root contents file =
    IsLoaded contents root (Err (error.ReadFault file))
    ⊎ ((source : Source) × IsClean root contents source × IsIn file (tables_beside source))

abbrev pub IsRefusal : List ℕ → Contents → (List ℕ → ℕ) → (List ℕ → ℕ) → SourceError → Type 0
IsRefusal root contents before now (error.Fault fault file) = IsFirstFault root contents fault file
IsRefusal root contents before now (error.ReadFault file) = IsUnread root contents file × Rose (before file) (now file)
IsRefusal root contents before now error.NoMemory = Unit {0}

abbrev pub IsCompiled : List ℕ → Contents → (List ℕ → ℕ) → (List ℕ → ℕ) → Result Build SourceError → Type 0
IsCompiled root contents before now (Ok b) = IsBuildOf root contents b
IsCompiled root contents before now (Err e) = IsRefusal root contents before now e
