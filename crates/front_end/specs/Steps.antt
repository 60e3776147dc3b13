-- What is known and answered of a source that is loaded.
use Rattle.std.specs.Prelude.{◌≡◌, Option, Some, None, Result, Ok, Err}
use Rattle.std.specs.Str.{IsUtf8}
use Rattle.adl_meaning.specs.Prelude.{AreFew, Fault, Source}
use Rattle.adl_meaning.specs.declared.flat.Flat.{Flat}
use Rattle.adl_meaning.specs.declared.settled.Settled.{Settled}
use Rattle.arch_policy.specs.Labels.{label_numbers}
use Rattle.arch_policy.specs.Policies.{first_edge_fault}
use Rattle.flat_laws.specs.ShortFiles.{AreFilesShort}
use Rattle.front_end.specs.First.{first_front_fault, name_of_file, source_tables}
use Rattle.front_end.specs.Fronts.{IsAssigned, IsMeant}
use Rattle.front_end.specs.Refusals.{IsNamed}
use Rattle.cam_base.specs.Unread.{SourceError}
use Rattle.cam_base.specs.declared.error.Unread.TheVariants as error
use Rattle.front_end.specs.declared.phases.FrontEnd.{FrontEnd}
use Rattle.front_end.specs.declared.phases.Meaning.{Meaning}

-- a source whose files are few and short; the name of its root is text
pub record IsWhole (source : Source) : Type 0 where
  pub few : AreFew source
  pub short : AreFilesShort source
  pub root : IsUtf8 (name_of_file source 0)

-- such a source, without faults up to the settings, with what it means
pub record HasMeaning (source : Source) (flat : Flat) (settled : Settled) : Type 0 where
  pub whole : IsWhole source
  pub none : first_front_fault source ≡ None
  pub meant : IsMeant source flat settled

-- a first fault is told, with the name of its file
abbrev pub Tells : Source → Option Fault → SourceError → Type 0
Tells source first (error.Fault fault file) = (first ≡ Some fault) × IsNamed source fault (error.Fault fault file)
Tells source first (error.ReadFault file) = ⊥
Tells source first error.NoMemory = Unit {0}

-- what the phases up to the settings answer
abbrev pub Means : Source → Result Meaning SourceError → Type 0
Means source (Ok m) = (m.source ≡ source) × (first_front_fault source ≡ None) × IsMeant m.source m.flat m.settled
Means source (Err e) = Tells source (first_front_fault source) e

-- what the policy's phase answers
abbrev pub Assigns : Meaning → Result FrontEnd SourceError → Type 0
Assigns m (Ok f) =
    (f.source ≡ m.source) × (f.flat ≡ m.flat) × (f.settled ≡ m.settled) × (first_edge_fault (source_tables m.source) ≡ None)
    × IsAssigned m.source f.policy × (f.numbers ≡ label_numbers m.flat)
Assigns m (Err e) = Tells m.source (first_edge_fault (source_tables m.source)) e
