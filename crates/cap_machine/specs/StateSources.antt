-- The edges of a state by what they come from. These words say the same as the definition of a state's authorities,
-- source by source.
use Rattle.std.specs.Prelude.{◌≡◌, ◌⊎◌, ℕ, true, List, Option}
use Rattle.cap_machine.specs.Below.{AsyncSend, Capability, Content, Control, Edge, Mapped, Node, Object, Pages, Reply, SavedReply, Spec, State, Thread, ThreadState, kind_confers, label_of}
use Rattle.cap_machine.specs.Sources.{OfEach, OfOption, OfLink, OfCap, OfSlots}
use Rattle.cap_model.specs.declared.kind.Kind.TheVariants as kinds

-- what a CNode with this label has at a number
abbrev pub OfContent : Spec → List ℕ → ℕ → Content → Edge → Type 0
OfContent spec labels from (Capability cap) e = OfCap spec labels from cap e
OfContent spec labels from (SavedReply reply) e = OfLink labels from Reply reply.caller e

abbrev pub OfNode : Spec → List ℕ → ℕ → Node → Edge → Type 0
OfNode spec labels from node e = OfEach (λ place slot. OfContent spec labels from slot.1) node.slots e

abbrev pub OfNodes : Spec → List ℕ → List Node → Edge → Type 0
OfNodes spec labels nodes e = OfEach (λ c node. OfNode spec labels (label_of labels c) node) nodes e

-- what a thread with this label has
abbrev pub OfThread : List ℕ → ℕ → ThreadState → Edge → Type 0
OfThread labels from thread e =
    OfOption (OfLink labels from Control) thread.root e
    ⊎ (OfOption (OfLink labels from Control) thread.space e ⊎ OfOption (λ reply. OfLink labels from Reply reply.caller)
    thread.pending e)

abbrev pub OfThreads : List ℕ → List ThreadState → Edge → Type 0
OfThreads labels threads e = OfEach (λ t thread. OfThread labels (label_of labels t) thread) threads e

abbrev pub OfIrqs : List ℕ → List (Option ℕ) → Edge → Type 0
OfIrqs labels irqs e = OfEach (λ d bound. OfOption (OfLink labels (label_of labels d) AsyncSend) bound) irqs e

-- a frame that was added to a space
pub record OfAdded (labels : List ℕ) (added : Mapped) (e : Edge) : Type 0 where
  pub from_is : e.from ≡ label_of labels added.space
  pub conferred : kind_confers kinds.Frame added.rights e.authority ≡ true
  pub to_is : e.to ≡ label_of labels added.frame

abbrev pub OfMapped : List ℕ → List Mapped → Edge → Type 0
OfMapped labels mapped e = OfEach (λ place added. OfAdded labels added) mapped e

-- what stays as in the spec: IPC buffers and the slots of page tables
abbrev pub OfFixed : Spec → List ℕ → ℕ → Object → Edge → Type 0
OfFixed spec labels from (Thread tcb) e = OfOption (OfCap spec labels from) tcb.buffer e
OfFixed spec labels from (Pages level slots) e = OfSlots spec labels from slots e
OfFixed spec labels from _ e = ⊥

abbrev pub OfSpecParts : Spec → List ℕ → Edge → Type 0
OfSpecParts spec labels e = OfEach (λ place entry. OfFixed spec labels (label_of labels place) entry.object) spec.entries e

abbrev pub OfState : Spec → List ℕ → State → Edge → Type 0
OfState spec labels s e =
    OfNodes spec labels s.nodes e
    ⊎ (OfThreads labels s.threads e ⊎ (OfIrqs labels s.irqs e ⊎ (OfMapped labels s.mapped e ⊎ OfSpecParts spec labels e)))
