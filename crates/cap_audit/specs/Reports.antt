-- What `audit` answers.
use Rattle.std.specs.Prelude.{◌≡◌, ◌≢◌, ◌<◌, ◌*◌, ◌↔◌, ℕ, List}
use Rattle.cap_audit.specs.Below.{Authority, Edge, Has, Reaches, Spec, Step, boot}
use Rattle.cap_audit.specs.Refusals.{IsFirstThread}
use Rattle.cap_audit.specs.Shows.{IsRun, Shows}
use Rattle.cap_audit.specs.Spread.{HoldsNoThread}
use Rattle.cap_audit.specs.Counts.{caps_of, cnodes_of}
use Rattle.cap_audit.specs.declared.report.AuditRefusal.{AuditRefusal}
use Rattle.cap_audit.specs.declared.report.AuditRefusal.TheVariants.{HoldsTcb, Limit, NoMemory}

-- the edges are those between different labels that some run reaches; the steps are a run that shows each
pub record IsReport (spec : Spec) (labels : List ℕ) (edges : List Edge) (steps : List Step) : Type 0 where
  pub reached : (l : ℕ) (a : Authority) (m : ℕ) → (Has edges l a m) ↔ (Reaches spec labels l a m × (l ≢ m))
  pub run : IsRun spec (boot spec) steps
  pub shown : (l : ℕ) (a : Authority) (m : ℕ) → Has edges l a m → Shows spec labels (boot spec) steps l a m

-- why there is no report: a capability to a thread in a CNode, the first; or counts whose product is past the limit,
-- where there is none
abbrev pub AuditRefused : Spec → AuditRefusal → Type 0
AuditRefused spec (HoldsTcb cnode slot) = IsFirstThread spec cnode slot
AuditRefused spec (Limit cnodes caps) = HoldsNoThread spec × (cnodes ≡ cnodes_of spec) × (caps ≡ caps_of spec)
    × (4000000 < cnodes * caps)
AuditRefused spec NoMemory = Unit {0}
