-- Words for the contracts of private functions alone: what each part of the search looks for. No public call cites them.
use Rattle.std.specs.Prelude.{◌≡◌, ◌≢◌, ◌<◌, ◌≤◌, ◌⊎◌, ℕ, Bool, true, false, List, slice_get, Option, Some, None}
use Rattle.cert_check.specs.Below.{AsyncSend, AtMost, Authority, Before, Control, Edge, Spec, has}
use Rattle.cap_model.specs.ObjectLabels.{label_of}
use Rattle.cap_model.specs.Confers.{confers}
use Rattle.cap_model.specs.declared.cap.Cap.{Cap}
use Rattle.cap_model.specs.declared.object.Object.{Object}
use Rattle.cap_model.specs.declared.object.Object.TheVariants.{Endpoint, Notification, CNode, Thread, Frame, Pages, Irq}
use Rattle.cap_model.specs.declared.object.Tcb.{Tcb}
use Rattle.cert_check.specs.Least.{FindsLeast, NotAfter}
use Rattle.cert_check.specs.Violations.{MissingEither}
use Rattle.cert_check.specs.declared.violation.Violation.{Violation}

-- what the capability confers, from l to its object
pub record OfCap (spec : Spec) (labels : List ℕ) (l : ℕ) (cap : Cap) (e : Edge) : Type 0 where
  pub confers : confers spec cap e.authority ≡ true
  pub from : e.from ≡ l
  pub to : e.to ≡ label_of labels cap.object

-- what the capabilities of slots confer
pub record OfSlots (spec : Spec) (labels : List ℕ) (l : ℕ) (slots : List (ℕ × Cap)) (e : Edge) : Type 0 where
  pub place : ℕ
  pub slot : ℕ × Cap
  pub there : slice_get slots place ≡ Some slot
  pub of_cap : OfCap spec labels l slot.1 e

-- Control over what a thread has
pub record OfLink (labels : List ℕ) (l : ℕ) (link : Option ℕ) (e : Edge) : Type 0 where
  pub object : ℕ
  pub there : link ≡ Some object
  pub control : e.authority ≡ Control
  pub from : e.from ≡ l
  pub to : e.to ≡ label_of labels object

-- AsyncSend to the notification of an interrupt
pub record OfBound (labels : List ℕ) (l : ℕ) (link : Option ℕ) (e : Edge) : Type 0 where
  pub object : ℕ
  pub there : link ≡ Some object
  pub sends : e.authority ≡ AsyncSend
  pub from : e.from ≡ l
  pub to : e.to ≡ label_of labels object

pub record OfOption (spec : Spec) (labels : List ℕ) (l : ℕ) (buffer : Option Cap) (e : Edge) : Type 0 where
  pub cap : Cap
  pub there : buffer ≡ Some cap
  pub of_cap : OfCap spec labels l cap e

abbrev pub OfTcb : Spec → List ℕ → ℕ → Tcb → Edge → Type 0
OfTcb spec labels l tcb e = OfLink labels l tcb.cspace e ⊎ (OfLink labels l tcb.vspace e ⊎ OfOption spec labels l tcb.buffer e)

-- what the first rule asks for because of this object, whose label is l
abbrev pub Asked : Spec → List ℕ → ℕ → Object → Edge → Type 0
Asked spec labels l (CNode bits slots) e = OfSlots spec labels l slots e
Asked spec labels l (Pages level slots) e = OfSlots spec labels l slots e × (e.from ≢ e.to)
Asked spec labels l (Thread tcb) e = OfTcb spec labels l tcb e × (e.from ≢ e.to)
Asked spec labels l (Irq bound) e = OfBound labels l bound e × (e.from ≢ e.to)
Asked spec labels l Endpoint e = ⊥
Asked spec labels l Notification e = ⊥
Asked spec labels l (Frame paddr fill) e = ⊥

-- an edge that the capability confers and the certificate lacks; within a label only where `within`
pub record CapLack (spec : Spec) (cert : List Edge) (within : Bool) (l : ℕ) (m : ℕ) (cap : Cap) (e : Edge) : Type 0 where
  pub confers : confers spec cap e.authority ≡ true
  pub from : e.from ≡ l
  pub to : e.to ≡ m
  pub wanted : within ≡ false → l ≢ m
  pub lacks : has cert e ≡ false

-- the same of a capability before place i
pub record SlotsLack (spec : Spec) (labels : List ℕ) (cert : List Edge) (within : Bool) (l : ℕ) (slots : List (ℕ × Cap)) (i : ℕ)
    (e : Edge) : Type 0 where
  pub place : ℕ
  pub slot : ℕ × Cap
  pub below : place < i
  pub there : slice_get slots place ≡ Some slot
  pub lack : CapLack spec cert within l (label_of labels slot.1.object) slot.1 e

pub record LinkLack (labels : List ℕ) (cert : List Edge) (l : ℕ) (a : Authority) (link : Option ℕ) (e : Edge) : Type 0 where
  pub object : ℕ
  pub there : link ≡ Some object
  pub authority : e.authority ≡ a
  pub from : e.from ≡ l
  pub to : e.to ≡ label_of labels object
  pub differ : e.from ≢ e.to
  pub lacks : has cert e ≡ false

pub record BufferLack (spec : Spec) (labels : List ℕ) (cert : List Edge) (l : ℕ) (buffer : Option Cap) (e : Edge) : Type 0 where
  pub cap : Cap
  pub there : buffer ≡ Some cap
  pub lack : CapLack spec cert false l (label_of labels cap.object) cap e

abbrev pub ThreadLack : Spec → List ℕ → List Edge → ℕ → Tcb → Edge → Type 0
ThreadLack spec labels cert l tcb e =
    LinkLack labels cert l Control tcb.cspace e ⊎ (LinkLack labels cert l Control tcb.vspace e ⊎ BufferLack spec labels cert l
    tcb.buffer e)

pub record ObjectLack (spec : Spec) (labels : List ℕ) (cert : List Edge) (l : ℕ) (object : Object) (e : Edge) : Type 0 where
  pub asked : Asked spec labels l object e
  pub lacks : has cert e ≡ false

-- which of two edges is kept: the lesser, the former where they are equal
abbrev pub LesserEdge : Option Edge → Option Edge → Option Edge → Type 0
LesserEdge None found kept = kept ≡ found
LesserEdge (Some old) None kept = kept ≡ Some old
LesserEdge (Some old) (Some new) kept = (Before new old × (kept ≡ Some new)) ⊎ (AtMost old new × (kept ≡ Some old))

-- which of two violations is kept
abbrev pub LesserOf : Option Violation → Option Violation → Option Violation → Type 0
LesserOf None found kept = kept ≡ found
LesserOf (Some old) None kept = kept ≡ Some old
LesserOf (Some old) (Some new) kept = (NotAfter new old × (kept ≡ Some new)) ⊎ (NotAfter old new × (kept ≡ Some old))

-- the least of the violations whose first edge is this one
abbrev pub FindsLeastAt : (Violation → Type 0) → Edge → Option Violation → Type 0
FindsLeastAt P e found = FindsLeast (λ v. P v × (v.first ≡ e)) found

-- by the edge e two labels are to have the same edges, and one lacks one that the other has
abbrev pub BreaksPair : List Edge → Edge → ℕ → ℕ → Violation → Type 0
BreaksPair cert e x y v = (v.first ≡ e) × MissingEither cert x y v

-- the edges from one place up to another have other authorities
abbrev pub AreOthers : List Edge → Authority → ℕ → ℕ → Type 0
AreOthers cert a low high = (k : ℕ) (e : Edge) → low ≤ k → k < high → slice_get cert k ≡ Some e → e.authority ≢ a

-- the first edge of the authority from a place on, and its place
pub record IsNextOf (cert : List Edge) (a : Authority) (from : ℕ) (found : ℕ × Edge) : Type 0 where
  pub on : from ≤ found.0
  pub others : AreOthers cert a from found.0
  pub there : slice_get cert found.0 ≡ Some found.1
  pub of : found.1.authority ≡ a
