-- Why a source is refused.
use Rattle.std.specs.Prelude.{◌≡◌, ◌⊎◌, ℕ, Bool, true, false, List, Option, Some, Result, Ok, Err}
use Rattle.adl_meaning.specs.Prelude.{Fault, Refused, Source}
use Rattle.cam_base.specs.declared.error.Refused.TheVariants as refused
use Rattle.cam_io.specs.Causes.{Rose}
use Rattle.cam_io.specs.Contents.{Contents}
use Rattle.adl_import.specs.Loaded.{IsLoaded}
use Rattle.cam_base.specs.Unread.{SourceError}
use Rattle.front_end.specs.First.{name_of_file}
use Rattle.cam_base.specs.declared.error.Unread.TheVariants as error

-- the fault, with the name of its file
abbrev pub IsNamed : Source → Fault → SourceError → Type 0
IsNamed source fault (error.Fault f file) = (f ≡ fault) × (file ≡ name_of_file source fault.place.file)
IsNamed source fault (error.ReadFault file) = ⊥
IsNamed source fault error.NoMemory = Unit {0}

abbrev pub IsRefused : Source → Refused Fault → SourceError → Type 0
IsRefused source (refused.Fault fault) e = IsNamed source fault e
IsRefused source refused.NoMemory e = e ≡ error.NoMemory

-- The root's source isn't loaded, by a fault of its files. Or it is loaded, and this is its first fault, with the name of the
-- file in which it stands.
abbrev pub IsFaulted : (Source → Option Fault) → List ℕ → Contents → Fault → List ℕ → Type 0
IsFaulted first root contents fault file =
    IsLoaded contents root (Err (error.Fault fault file))
    ⊎ ((source : Source) × IsLoaded contents root (Ok source) × (first source ≡ Some fault)
    × (file ≡ name_of_file source fault.place.file))

abbrev pub Refuses : (Source → Option Fault) → List ℕ → Contents → (List ℕ → ℕ) → (List ℕ → ℕ) → SourceError → Type 0
Refuses first root contents before now (error.Fault fault file) = IsFaulted first root contents fault file
Refuses first root contents before now (error.ReadFault file) =
    IsLoaded contents root (Err (error.ReadFault file)) × Rose (before file) (now file)
Refuses first root contents before now error.NoMemory = Unit {0}
