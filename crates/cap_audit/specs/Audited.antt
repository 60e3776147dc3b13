-- The edges that an audit finds: those of the boot state that no capability of a CNode makes, and those that the Spread
-- makes. That they are exactly the edges that runs reach is a law.
use Rattle.std.specs.Prelude.{◌≡◌, ℕ, true, List}
use Rattle.cap_audit.specs.Below.{AsyncSend, Authority, Cap, Reply, Spec, Structural, boot, label_of}
use Rattle.cap_model.specs.Confers.{confers}
use Rattle.cap_audit.specs.Spread.{HasRoot, Spread}
use Rattle.cap_audit.specs.Within.{Calls, Binds, Maps}

-- what a capability of the Spread confers
abbrev pub OfSpread : Spec → List ℕ → ℕ → Authority → ℕ → Type 0
OfSpread spec labels l a m =
    (c : ℕ) × (cap : Cap) × Spread spec c cap × (confers spec cap a ≡ true) × (l ≡ label_of labels c)
    × (m ≡ label_of labels cap.object)

-- a space over a frame, as far as the capability to the frame goes
abbrev pub OfMap : Spec → List ℕ → ℕ → Authority → ℕ → Type 0
OfMap spec labels l a m =
    (frame : Cap) × (space : Cap) × Maps spec frame space × (confers spec frame a ≡ true) × (l ≡ label_of labels space.object)
    × (m ≡ label_of labels frame.object)

-- an interrupt to a notification
abbrev pub OfBind : Spec → List ℕ → ℕ → Authority → ℕ → Type 0
OfBind spec labels l a m = (d n : ℕ) × Binds spec d n × (a ≡ AsyncSend) × (l ≡ label_of labels d) × (m ≡ label_of labels n)

-- a thread that is called, to the caller
abbrev pub OfCall : Spec → List ℕ → ℕ → Authority → ℕ → Type 0
OfCall spec labels l a m =
    (t u : ℕ) × (to : Cap) × (from : Cap) × Calls spec t u to from × (a ≡ Reply) × (l ≡ label_of labels u)
    × (m ≡ label_of labels t)

-- its root, which may save the reply, to the caller
abbrev pub OfSave : Spec → List ℕ → ℕ → Authority → ℕ → Type 0
OfSave spec labels l a m =
    (t u c : ℕ) × (to : Cap) × (from : Cap) × Calls spec t u to from × HasRoot spec u c × (a ≡ Reply) × (l ≡ label_of labels c)
    × (m ≡ label_of labels t)

pub data Audited (spec : Spec) (labels : List ℕ) (l : ℕ) (a : Authority) (m : ℕ) : Type 0 where
  at_boot : Structural spec labels (boot spec) l a m → Audited spec labels l a m
  of_spread : OfSpread spec labels l a m → Audited spec labels l a m
  of_map : OfMap spec labels l a m → Audited spec labels l a m
  of_bind : OfBind spec labels l a m → Audited spec labels l a m
  of_call : OfCall spec labels l a m → Audited spec labels l a m
  of_save : OfSave spec labels l a m → Audited spec labels l a m
