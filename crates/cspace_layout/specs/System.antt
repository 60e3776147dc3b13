-- What slots and spaces are laid out from: a source, its flat system, and the settings of that.
use Rattle.std.specs.Prelude.{◌≡◌, List}
use Rattle.cspace_layout.specs.Below.{Flat, Settled, Source}
use Rattle.cspace_layout.specs.declared.end_at.EndAt.{EndAt}
use Rattle.cspace_layout.specs.LeafEnds.{ends_of}
use Rattle.cspace_layout.specs.Within.{IsWithin}

pub record System : Type 0 where
  pub source : Source
  pub flat : Flat
  pub settled : Settled

abbrev pub wired : Source → Flat → Settled → System
wired source flat settled = record { source = source; flat = flat; settled = settled }

-- the ends of each leaf
abbrev pub all_ends : System → List (List EndAt)
all_ends s = ends_of s.source s.flat

-- these are the ends of each leaf
pub record IsWired (source : Source) (flat : Flat) (ends : List (List EndAt)) : Type 0 where
  pub within : IsWithin source flat
  pub ends_are : ends ≡ ends_of source flat
