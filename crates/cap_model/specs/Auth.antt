-- The authorities of a state: which label has which authority over which.
--
-- Held edges go from the label of a CNode, for what each of its capabilities confers, to the label of the object. Structural
-- edges go:
-- - from the label of a CNode, Reply, to the label of the caller of each saved reply in it;
-- - from a thread's label, Control, to the labels of its root and its space;
-- - from a thread's label, for what the capability to its IPC buffer confers (Read or Write), to the label of the buffer;
-- - from a thread's label, Reply, to the label of the caller of its pending reply;
-- - from a page table's label, for what each of its slots confers;
-- - from a space's label, Read or Write, to the label of each frame that was added to it;
-- - from an interrupt's label, AsyncSend, to the label of its notification.
use Rattle.std.specs.Prelude.{◌≡◌, ◌⊎◌, ℕ, true, List, [], Option, Some, None}
use Rattle.std.specs.List.{Contains}
use Rattle.cap_model.specs.ObjectLabels.{label_of}
use Rattle.authorities.specs.declared.authority.Authority.{Authority}
use Rattle.authorities.specs.declared.authority.Authority.TheVariants.{AsyncSend, Control, Reply}
use Rattle.cap_model.specs.declared.cap.Cap.{Cap}
use Rattle.cap_model.specs.declared.kind.Kind.TheVariants.{Frame}
use Rattle.cap_model.specs.declared.object.Object.{Object}
use Rattle.cap_model.specs.declared.object.Object.TheVariants as objects
use Rattle.cap_model.specs.declared.spec.Spec.{Spec}
use Rattle.cap_model.specs.declared.state.Content.TheVariants.{Capability, SavedReply}
use Rattle.cap_model.specs.declared.state.Mapped.{Mapped}
use Rattle.cap_model.specs.declared.state.Pending.{Pending}
use Rattle.cap_model.specs.Confers.{confers, kind_confers}
use Rattle.cap_model.specs.Lookup.{object_at}
use Rattle.cap_model.specs.State.{State, node_at, thread_at, irq_at}

-- what c's capabilities confer
abbrev pub Held : Spec → List ℕ → State → ℕ → Authority → ℕ → Type 0
Held spec labels s l a m =
    (c i : ℕ) × (cap : Cap) × Contains (node_at s c).slots (i, Capability cap) × (confers spec cap a ≡ true)
    × (l ≡ label_of labels c) × (m ≡ label_of labels cap.object)

abbrev pub buffer_of : Option Object → Option Cap
buffer_of (Some (objects.Thread tcb)) = tcb.buffer
buffer_of _ = None

abbrev pub table_of : Option Object → List (ℕ × Cap)
table_of (Some (objects.Pages level slots)) = slots
table_of _ = []

abbrev pub OfBuffer : Spec → List ℕ → ℕ → Authority → ℕ → Type 0
OfBuffer spec labels l a m =
    (t : ℕ) × (cap : Cap) × (buffer_of (object_at spec t) ≡ Some cap) × (confers spec cap a ≡ true) × (l ≡ label_of labels t)
    × (m ≡ label_of labels cap.object)

abbrev pub OfTable : Spec → List ℕ → ℕ → Authority → ℕ → Type 0
OfTable spec labels l a m =
    (p i : ℕ) × (cap : Cap) × Contains (table_of (object_at spec p)) (i, cap) × (confers spec cap a ≡ true)
    × (l ≡ label_of labels p) × (m ≡ label_of labels cap.object)

abbrev pub OfRoot : List ℕ → State → ℕ → Authority → ℕ → Type 0
OfRoot labels s l a m = (t d : ℕ) × ((thread_at s t).root ≡ Some d) × (a ≡ Control) × (l ≡ label_of labels t)
    × (m ≡ label_of labels d)

abbrev pub OfSpace : List ℕ → State → ℕ → Authority → ℕ → Type 0
OfSpace labels s l a m = (t d : ℕ) × ((thread_at s t).space ≡ Some d) × (a ≡ Control) × (l ≡ label_of labels t)
    × (m ≡ label_of labels d)

abbrev pub OfReply : List ℕ → State → ℕ → Authority → ℕ → Type 0
OfReply labels s l a m = (t : ℕ) × (pending : Pending) × ((thread_at s t).pending ≡ Some pending) × (a ≡ Reply)
    × (l ≡ label_of labels t) × (m ≡ label_of labels pending.caller)

abbrev pub OfSaved : List ℕ → State → ℕ → Authority → ℕ → Type 0
OfSaved labels s l a m = (c i : ℕ) × (saved : Pending) × Contains (node_at s c).slots (i, SavedReply saved) × (a ≡ Reply)
    × (l ≡ label_of labels c) × (m ≡ label_of labels saved.caller)

abbrev pub OfMapped : List ℕ → State → ℕ → Authority → ℕ → Type 0
OfMapped labels s l a m = (added : Mapped) × Contains s.mapped added × (kind_confers Frame added.rights a ≡ true)
    × (l ≡ label_of labels added.space) × (m ≡ label_of labels added.frame)

abbrev pub OfIrq : List ℕ → State → ℕ → Authority → ℕ → Type 0
OfIrq labels s l a m = (d n : ℕ) × (irq_at s d ≡ Some n) × (a ≡ AsyncSend) × (l ≡ label_of labels d) × (m ≡ label_of labels n)

pub data Structural (spec : Spec) (labels : List ℕ) (s : State) (l : ℕ) (a : Authority) (m : ℕ) : Type 0 where
  of_buffer : OfBuffer spec labels l a m → Structural spec labels s l a m
  of_table : OfTable spec labels l a m → Structural spec labels s l a m
  of_root : OfRoot labels s l a m → Structural spec labels s l a m
  of_space : OfSpace labels s l a m → Structural spec labels s l a m
  of_reply : OfReply labels s l a m → Structural spec labels s l a m
  of_saved : OfSaved labels s l a m → Structural spec labels s l a m
  of_mapped : OfMapped labels s l a m → Structural spec labels s l a m
  of_irq : OfIrq labels s l a m → Structural spec labels s l a m

abbrev pub Auth : Spec → List ℕ → State → ℕ → Authority → ℕ → Type 0
Auth spec labels s l a m = Held spec labels s l a m ⊎ Structural spec labels s l a m
