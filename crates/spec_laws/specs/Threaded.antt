-- The threads of a system, told of its spec and its map. Each leaf of software has a line for its control thread, and one for
-- each of its ends that serves calls; lines and threads are one to one. A thread runs its leaf's program, has its leaf's
-- priority, and its domain's CNode and space. Threads are numbered by domain, and in a domain in its order of threads.
use Rattle.std.specs.Prelude.{◌≡◌, ℕ, ◌+◌, List, Option, Some, None, slice_get}
use Rattle.spec_laws.specs.Below.{EndAt, FlatConnection, FlatEnd, Image, IsIn, Leaf, LeafSetting, MapLine, Rpc, Spec, Tables, Tcb, Thread, ThreadLine, ThreadOf, To, before, component_name, object_at, threads_of}
use Rattle.system_spec.specs.declared.series.Series.TheVariants as series
use Rattle.spec_laws.specs.Slotted.{IsNamed}
use Rattle.spec_laws.specs.Spaced.{Runs, system}

-- the thread at the place is one of this leaf, which is of domain d
pub record IsThreadOf (t : Tables) (spec : Spec) (root : ℕ → ℕ) (leaf place : ℕ) : Type 0 where
  pub tcb : Tcb
  pub is : object_at spec place ≡ Some (Thread tcb)
  pub found : Leaf
  pub here : slice_get t.flat.leaves leaf ≡ Some found
  pub domain : ℕ
  pub inside : found.domain ≡ Some domain
  pub image : Image
  pub runs : Runs t leaf image
  pub entry : tcb.ip ≡ image.entry
  pub elf : tcb.elf ≡ Some (component_name t.source found.component)
  pub setting : LeafSetting
  pub settled : slice_get t.settled.leaves leaf ≡ Some setting
  pub priority : tcb.prio ≡ setting.priority
  pub cnode : tcb.cspace ≡ Some domain
  pub space : tcb.vspace ≡ Some (root domain)

-- calls come in to the leaf by this end
pub record Serves (t : Tables) (leaf : ℕ) (e : EndAt) : Type 0 where
  pub connection : FlatConnection
  pub here : slice_get t.flat.connections e.connection ≡ Some connection
  pub is_rpc : connection.connector ≡ Rpc
  pub end : FlatEnd
  pub stands : slice_get connection.ends e.end ≡ Some end
  pub is_to : end.role ≡ To
  pub joins : end.leaf ≡ leaf

-- what a thread may be of: a leaf of software, or an end that serves
abbrev pub HasThread : Tables → ℕ → Option EndAt → Type 0
HasThread t leaf None = (found : Leaf) × (d : ℕ) × (slice_get t.flat.leaves leaf ≡ Some found) × (found.domain ≡ Some d)
HasThread t leaf (Some e) = Serves t leaf e

-- thread i of domain d has i before it in its own domain, and those of all domains before
abbrev pub AreThreadsNumbered : Tables → Spec → List MapLine → Type 0
AreThreadsNumbered t spec lines =
    (d i place : ℕ) (x : ThreadOf) → slice_get (threads_of (system t) d) i ≡ Some x → IsIn (ThreadLine place x.leaf x.end) lines
    → IsNamed spec place series.Tcb (before (λ e y. threads_of (system t) e) t.flat.domains d + i)

pub record AreThreads (t : Tables) (spec : Spec) (root : ℕ → ℕ) (lines : List MapLine) : Type 0 where
  pub only : (tcb leaf : ℕ) (end : Option EndAt) → IsIn (ThreadLine tcb leaf end) lines
      → HasThread t leaf end × IsThreadOf t spec root leaf tcb
  pub every : (leaf : ℕ) (end : Option EndAt) → HasThread t leaf end → (tcb : ℕ) × IsIn (ThreadLine tcb leaf end) lines
  pub one : (tcb again leaf : ℕ) (end : Option EndAt) → IsIn (ThreadLine tcb leaf end) lines
      → IsIn (ThreadLine again leaf end) lines → tcb ≡ again
  pub all : (place : ℕ) (tcb : Tcb) → object_at spec place ≡ Some (Thread tcb)
      → (leaf : ℕ) × (end : Option EndAt) × IsIn (ThreadLine place leaf end) lines
  pub numbered : AreThreadsNumbered t spec lines
  pub apart : (tcb leaf other : ℕ) (end more : Option EndAt) → IsIn (ThreadLine tcb leaf end) lines
      → IsIn (ThreadLine tcb other more) lines → (leaf ≡ other) × (end ≡ more)
