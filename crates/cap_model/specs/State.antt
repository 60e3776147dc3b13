-- The states of the step machine, and the boot state.
--
-- A state has for each CNode a finite map from numbers to capabilities and saved replies, and a next number; for each
-- thread an optional root CNode, an optional space, an optional pending reply, and whether it waits; for each interrupt
-- an optional notification; and the frames that were added to spaces. The slots of page tables and the capabilities to
-- IPC buffers stay as in the spec. At boot roots, spaces, slots and interrupts are the spec's, nobody waits, nothing is
-- pending or saved, no frame was added, and the next number of a CNode of b bits is 2^b.
use Rattle.std.specs.Prelude.{ℕ, ◌^◌, ◌==◌, List, [], map, Option, None, slice_index_or, false}
use Rattle.std.specs.Map.{lookup}
use Rattle.cap_model.specs.declared.cap.Cap.{Cap}
use Rattle.cap_model.specs.declared.object.Object.{Object}
use Rattle.cap_model.specs.declared.object.Object.TheVariants.{CNode, Thread, Irq}
use Rattle.cap_model.specs.declared.spec.Spec.{Spec}
use Rattle.cap_model.specs.declared.state.Content.{Content}
use Rattle.cap_model.specs.declared.state.Content.TheVariants.{Capability}
use Rattle.cap_model.specs.declared.state.ThreadState.{ThreadState}
use Rattle.cap_model.specs.declared.state.Mapped.{Mapped}

-- a CNode: what it has, by number, and its next number
pub record Node : Type 0 where
  pub slots : List (ℕ × Content)
  pub next : ℕ

-- the first three lists go by the objects' places in the spec; what they have for an object of another kind is empty
pub record State : Type 0 where
  pub nodes : List Node
  pub threads : List ThreadState
  pub irqs : List (Option ℕ)
  pub mapped : List Mapped

abbrev pub no_node : Node
no_node = record { slots = []; next = 0 }

abbrev pub no_thread : ThreadState
no_thread = record { root = None; space = None; pending = None; waits = false }

abbrev pub node_at : State → ℕ → Node
node_at s c = slice_index_or s.nodes c no_node

abbrev pub thread_at : State → ℕ → ThreadState
thread_at s t = slice_index_or s.threads t no_thread

abbrev pub irq_at : State → ℕ → Option ℕ
irq_at s d = slice_index_or s.irqs d None

-- what stands at the number i
abbrev pub content_at : Node → ℕ → Option Content
content_at node i = lookup (λ n. n == i) node.slots

-- what the CNode c has at the number i
abbrev pub content_in : State → ℕ → ℕ → Option Content
content_in s c i = content_at (node_at s c) i

abbrev pub boot_slot : ℕ × Cap → ℕ × Content
boot_slot slot = (slot.0, Capability slot.1)

abbrev pub boot_node : Object → Node
boot_node (CNode bits slots) = record { slots = map boot_slot slots; next = 2 ^ bits }
boot_node _ = no_node

abbrev pub boot_thread : Object → ThreadState
boot_thread (Thread tcb) = record { root = tcb.cspace; space = tcb.vspace; pending = None; waits = false }
boot_thread _ = no_thread

abbrev pub boot_irq : Object → Option ℕ
boot_irq (Irq notification) = notification
boot_irq _ = None

abbrev pub boot : Spec → State
boot spec = record {
  nodes = map (λ e. boot_node e.object) spec.entries;
  threads = map (λ e. boot_thread e.object) spec.entries;
  irqs = map (λ e. boot_irq e.object) spec.entries;
  mapped = [];
}
