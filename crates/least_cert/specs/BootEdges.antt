-- Words for the contracts of private functions alone: the edges that the boot state asks for.
use Rattle.std.specs.Prelude.{◌≡◌, ◌≢◌, ◌==◌, ◌⊎◌, ℕ, true, List, Option, None, Some, if◌then◌else◌}
use Rattle.cap_machine.specs.Sources.{OfEach, OfObject, OfSlots}
use Rattle.cap_model.specs.ObjectLabels.{label_of}
use Rattle.cap_model.specs.Tables.{Has, has}
use Rattle.authorities.specs.declared.authority.Authority.{Authority}
use Rattle.cap_model.specs.declared.edge.Edge.{Edge}
use Rattle.cap_model.specs.Auth.{Auth, Held, Structural}
use Rattle.cap_model.specs.State.{boot}
use Rattle.cap_model.specs.declared.object.Object.{Object}
use Rattle.cap_model.specs.declared.object.Object.TheVariants as objects
use Rattle.cap_model.specs.declared.spec.Entry.{Entry}
use Rattle.cap_model.specs.declared.spec.Spec.{Spec}

-- what the capabilities of an object confer, where it is a CNode
abbrev pub OfHolder : Spec → List ℕ → ℕ → Object → Edge → Type 0
OfHolder spec labels from (objects.CNode bits slots) e = OfSlots spec labels from slots e
OfHolder spec labels from (objects.Pages level slots) e = ⊥
OfHolder spec labels from (objects.Thread tcb) e = ⊥
OfHolder spec labels from (objects.Irq notification) e = ⊥
OfHolder spec labels from objects.Endpoint e = ⊥
OfHolder spec labels from objects.Notification e = ⊥
OfHolder spec labels from (objects.Frame paddr fill) e = ⊥

-- what those of all CNodes confer
abbrev pub OfHolders : Spec → List ℕ → Edge → Type 0
OfHolders spec labels e = OfEach (λ place (entry : Entry). OfHolder spec labels (label_of labels place) entry.object)
    spec.entries e

-- the edges at boot that an object with this label is the source of, where it is no CNode
abbrev pub OfOther : Spec → List ℕ → ℕ → Object → Edge → Type 0
OfOther spec labels from (objects.CNode bits slots) e = ⊥
OfOther spec labels from (objects.Pages level slots) e = OfObject spec labels from (objects.Pages level slots) e
OfOther spec labels from (objects.Thread tcb) e = OfObject spec labels from (objects.Thread tcb) e
OfOther spec labels from (objects.Irq notification) e = OfObject spec labels from (objects.Irq notification) e
OfOther spec labels from objects.Endpoint e = ⊥
OfOther spec labels from objects.Notification e = ⊥
OfOther spec labels from (objects.Frame paddr fill) e = ⊥

-- those of all others than CNodes
abbrev pub OfOthers : Spec → List ℕ → Edge → Type 0
OfOthers spec labels e = OfEach (λ place (entry : Entry). OfOther spec labels (label_of labels place) entry.object) spec.entries e

-- the edge, where it lies between different labels
abbrev pub between_labels : Edge → Option Edge
between_labels e = if e.from == e.to then None else Some e

-- the held edges of the boot state
pub record AreHeld (spec : Spec) (labels : List ℕ) (edges : List Edge) : Type 0 where
  pub only : (e : Edge) → has edges e ≡ true → Held spec labels (boot spec) e.from e.authority e.to
  pub every : (l : ℕ) (a : Authority) (m : ℕ) → Held spec labels (boot spec) l a m → Has edges l a m

-- its edges between different labels, but for held ones
pub record AreLinks (spec : Spec) (labels : List ℕ) (edges : List Edge) : Type 0 where
  pub only : (e : Edge) → has edges e ≡ true → Auth spec labels (boot spec) e.from e.authority e.to × (e.from ≢ e.to)
  pub every : (l : ℕ) (a : Authority) (m : ℕ) → Structural spec labels (boot spec) l a m → l ≢ m
      → (Held spec labels (boot spec) l a m) ⊎ (Has edges l a m)
