-- The edges of a state by what they come from: capabilities, slots, links of threads and interrupts, the parts that a
-- state takes from its spec. These words say the same as the definition of a state's authorities, source by source.
use Rattle.std.specs.Prelude.{◌≡◌, ◌⊎◌, ℕ, true, List, slice_get, Option, Some}
use Rattle.cap_machine.specs.Below.{AsyncSend, Authority, CNode, Cap, Control, Edge, Endpoint, Frame, Irq, Notification, Object, Pages, Spec, Thread, confers, label_of}
use Rattle.cap_model.specs.declared.object.Tcb.{Tcb}

-- the edges that some item of the list is the source of; P takes the item's place too
pub record OfEach {A : Type 0} (P : ℕ → A → Edge → Type 0) (items : List A) (e : Edge) : Type 0 where
  pub place : ℕ
  pub item : A
  pub there : slice_get items place ≡ Some item
  pub by : P place item e

-- the edges that the item is the source of, where there is one
pub record OfOption {A : Type 0} (P : A → Edge → Type 0) (item : Option A) (e : Edge) : Type 0 where
  pub some : A
  pub there : item ≡ Some some
  pub by : P some e

-- one authority from a label to an object's label
pub record OfLink (labels : List ℕ) (from : ℕ) (a : Authority) (object : ℕ) (e : Edge) : Type 0 where
  pub from_is : e.from ≡ from
  pub authority_is : e.authority ≡ a
  pub to_is : e.to ≡ label_of labels object

-- what the capability confers, from a label to its object's
pub record OfCap (spec : Spec) (labels : List ℕ) (from : ℕ) (cap : Cap) (e : Edge) : Type 0 where
  pub from_is : e.from ≡ from
  pub conferred : confers spec cap e.authority ≡ true
  pub to_is : e.to ≡ label_of labels cap.object

-- what the capabilities of slots confer
abbrev pub OfSlots : Spec → List ℕ → ℕ → List (ℕ × Cap) → Edge → Type 0
OfSlots spec labels from slots e = OfEach (λ place slot. OfCap spec labels from slot.1) slots e

abbrev pub OfTcb : Spec → List ℕ → ℕ → Tcb → Edge → Type 0
OfTcb spec labels from tcb e =
    OfOption (OfLink labels from Control) tcb.cspace e ⊎ (OfOption (OfLink labels from Control) tcb.vspace e
    ⊎ OfOption (OfCap spec labels from) tcb.buffer e)

-- the edges at boot that an object with this label is the source of
abbrev pub OfObject : Spec → List ℕ → ℕ → Object → Edge → Type 0
OfObject spec labels from (CNode bits slots) e = OfSlots spec labels from slots e
OfObject spec labels from (Pages level slots) e = OfSlots spec labels from slots e
OfObject spec labels from (Thread tcb) e = OfTcb spec labels from tcb e
OfObject spec labels from (Irq notification) e = OfOption (OfLink labels from AsyncSend) notification e
OfObject spec labels from Endpoint e = ⊥
OfObject spec labels from Notification e = ⊥
OfObject spec labels from (Frame paddr fill) e = ⊥

-- the edges at boot
abbrev pub OfSpec : Spec → List ℕ → Edge → Type 0
OfSpec spec labels e = OfEach (λ place entry. OfObject spec labels (label_of labels place) entry.object) spec.entries e
