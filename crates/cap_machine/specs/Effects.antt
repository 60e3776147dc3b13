-- What steps do to the parts of a state.
use Rattle.std.specs.Prelude.{ℕ, ◌+◌, ◌==◌, Bool, true, false, not, List, [], ◌∷◌, ◌++◌, Option, Some, None, slice_index_or, slice_set}
use Rattle.cap_machine.specs.Below.{Cap, Capability, Content, Node, Pending, Rights, SavedReply, State, ThreadState, filter, no_node, no_thread}

-- what is added stands at the next number, which grows by one
abbrev pub grown : Node → Content → Node
grown node content = record { slots = node.slots ++ (node.next, content) ∷ []; next = node.next + 1 }

-- the number holds nothing, and isn't used again
abbrev pub without : Node → ℕ → Node
without node i = record { slots = filter (λ slot. not (slot.0 == i)) node.slots; next = node.next }

abbrev pub grown_at : List Node → ℕ → Content → List Node
grown_at nodes c content = slice_set nodes c (grown (slice_index_or nodes c no_node) content)

abbrev pub without_at : List Node → ℕ → ℕ → List Node
without_at nodes c i = slice_set nodes c (without (slice_index_or nodes c no_node) i)

abbrev pub waiting : List ThreadState → ℕ → Bool → List ThreadState
waiting threads t waits = slice_set threads t (record (slice_index_or threads t no_thread) { waits = waits })

abbrev pub with_pending : List ThreadState → ℕ → Option Pending → List ThreadState
with_pending threads t pending = slice_set threads t (record (slice_index_or threads t no_thread) { pending = pending })

abbrev pub with_root : List ThreadState → ℕ → ℕ → List ThreadState
with_root threads t root = slice_set threads t (record (slice_index_or threads t no_thread) { root = Some root })

abbrev pub with_space : List ThreadState → ℕ → ℕ → List ThreadState
with_space threads t space = slice_set threads t (record (slice_index_or threads t no_thread) { space = Some space })

abbrev pub called_threads : List ThreadState → ℕ → ℕ → Bool → List ThreadState
called_threads threads t u grants = waiting (with_pending threads u (Some (record { caller = t; grants = grants }))) t true

abbrev pub replied_threads : List ThreadState → ℕ → ℕ → List ThreadState
replied_threads threads t caller = waiting (with_pending threads t None) caller false

-- those of the rights that are among R and W
abbrev pub read_write : Rights → Rights
read_write r = record { read = r.read; write = r.write; grant = false; reply = false }

-- a copy in c, at its next number
abbrev pub added : State → ℕ → Cap → State
added s c cap = record s { nodes = grown_at s.nodes c (Capability cap) }

-- i of c holds nothing
abbrev pub dropped : State → ℕ → ℕ → State
dropped s c i = record s { nodes = without_at s.nodes c i }

-- t waits, and u owes it a reply; what u owed before is lost
abbrev pub called : State → ℕ → ℕ → Bool → State
called s t u grants = record s { threads = called_threads s.threads t u grants }

-- t owes no reply, and the caller waits no more
abbrev pub replied : State → ℕ → ℕ → State
replied s t caller = record s { threads = replied_threads s.threads t caller }

-- t owes no reply: c has it, at its next number
abbrev pub saved : State → ℕ → ℕ → Pending → State
saved s t c pending = record s { nodes = grown_at s.nodes c (SavedReply pending); threads = with_pending s.threads t None }

-- i of c holds nothing, and the caller waits no more
abbrev pub released : State → ℕ → ℕ → ℕ → State
released s c i caller = record s { nodes = without_at s.nodes c i; threads = waiting s.threads caller false }
