-- A state fits a spec: its CNodes, threads and interrupts are those of the spec, and every object that it names is in
-- the spec and of the kind that its place asks. Whoever has a pending or saved reply, and its caller, has a root.
use Rattle.std.specs.Prelude.{◌≡◌, ◌<◌, ◌⊎◌, ℕ, true, List, length, Option, Some, None, IsSome, slice_index_or}
use Rattle.std.specs.List.{Contains}
use Rattle.cap_model.specs.declared.kind.Kind.TheVariants.{CNode, Thread, Frame, Irq, Notification}
use Rattle.cap_model.specs.declared.spec.Spec.{Spec}
use Rattle.cap_model.specs.declared.state.Content.{Content}
use Rattle.cap_model.specs.declared.state.Content.TheVariants.{Capability, SavedReply}
use Rattle.cap_model.specs.declared.state.Mapped.{Mapped}
use Rattle.cap_model.specs.declared.state.Pending.{Pending}
use Rattle.cap_model.specs.declared.state.ThreadState.{ThreadState}
use Rattle.cap_model.specs.Kinds.{is_at, is_space_root}
use Rattle.cap_model.specs.State.{Node, State, no_node, no_thread, node_at, thread_at, irq_at}

-- the caller is a thread of the spec that has a root
pub record ReplyFits (spec : Spec) (threads : List ThreadState) (reply : Pending) : Type 0 where
  pub thread : is_at spec Thread reply.caller ≡ true
  pub rooted : IsSome (slice_index_or threads reply.caller no_thread).root

abbrev pub ContentFits : Spec → List ThreadState → Content → Type 0
ContentFits spec threads (Capability cap) = cap.object < length spec.entries
ContentFits spec threads (SavedReply saved) = ReplyFits spec threads saved

pub record NodeFits (spec : Spec) (threads : List ThreadState) (c : ℕ) (node : Node) : Type 0 where
  pub kind : (node ≡ no_node) ⊎ (is_at spec CNode c ≡ true)
  pub slots : (i : ℕ) (content : Content) → Contains node.slots (i, content) → ContentFits spec threads content

pub record ThreadFits (spec : Spec) (threads : List ThreadState) (t : ℕ) (thread : ThreadState) : Type 0 where
  pub kind : (thread ≡ no_thread) ⊎ (is_at spec Thread t ≡ true)
  pub root : (c : ℕ) → thread.root ≡ Some c → is_at spec CNode c ≡ true
  pub space : (d : ℕ) → thread.space ≡ Some d → is_space_root spec d ≡ true
  pub pending : (reply : Pending) → thread.pending ≡ Some reply → ReplyFits spec threads reply
  pub holder : IsSome thread.pending → IsSome thread.root

pub record IrqFits (spec : Spec) (d : ℕ) (bound : Option ℕ) : Type 0 where
  pub kind : (bound ≡ None) ⊎ (is_at spec Irq d ≡ true)
  pub notification : (n : ℕ) → bound ≡ Some n → is_at spec Notification n ≡ true

pub record MappedFits (spec : Spec) (added : Mapped) : Type 0 where
  pub space : is_space_root spec added.space ≡ true
  pub frame : is_at spec Frame added.frame ≡ true

pub record FitsSpec (spec : Spec) (s : State) : Type 0 where
  pub as_many_nodes : length s.nodes ≡ length spec.entries
  pub as_many_threads : length s.threads ≡ length spec.entries
  pub as_many_irqs : length s.irqs ≡ length spec.entries
  pub nodes : (c : ℕ) → NodeFits spec s.threads c (node_at s c)
  pub threads : (t : ℕ) → ThreadFits spec s.threads t (thread_at s t)
  pub irqs : (d : ℕ) → IrqFits spec d (irq_at s d)
  pub mapped : (added : Mapped) → Contains s.mapped added → MappedFits spec added
