-- The boot edges between different labels, by pieces. What CNodes and interrupts have is given directly, and all that is given
-- but Read and Write is theirs; page tables have windows; and what threads have, their roots, spaces and IPC buffers, stays
-- within their labels.
use Rattle.std.specs.Prelude.{◌≡◌, ◌≢◌, ◌⊎◌, ℕ, List}
use Rattle.reach_laws.specs.Below.{Authority, DirectReason, Held, OfBuffer, OfIrq, OfRoot, OfSpace, Read, Spec, Tables, Write, boot, edge}
use Rattle.reach_laws.specs.Windows.{HasWindows}

-- what CNodes and interrupts have
abbrev pub OfJoints : Spec → List ℕ → ℕ → Authority → ℕ → Type 0
OfJoints spec labels l a m = Held spec labels (boot spec) l a m ⊎ OfIrq labels (boot spec) l a m

-- what threads have
abbrev pub OfThreads : Spec → List ℕ → ℕ → Authority → ℕ → Type 0
OfThreads spec labels l a m = OfRoot labels (boot spec) l a m ⊎ (OfSpace labels (boot spec) l a m ⊎ OfBuffer spec labels l a m)

abbrev pub IsAccess : Authority → Type 0
IsAccess a = (a ≡ Read) ⊎ (a ≡ Write)

pub record HasPieces (t : Tables) (spec : Spec) (labels : List ℕ) : Type 0 where
  pub joints : (l : ℕ) (a : Authority) (m : ℕ) → l ≢ m → OfJoints spec labels l a m → DirectReason t (edge l a m)
  pub given : (l : ℕ) (a : Authority) (m : ℕ) → l ≢ m → DirectReason t (edge l a m) → IsAccess a ⊎ OfJoints spec labels l a m
  pub threads : (l : ℕ) (a : Authority) (m : ℕ) → OfThreads spec labels l a m → l ≡ m
  pub windows : HasWindows t spec labels
