-- The regions of a system's spaces, told of its spec and its map. Thread i of a domain has the regions 2 i and 2 i + 1, its stack
-- and its IPC buffer; window j has the region of its number behind those of all threads. Where a region begins is a sum.
use Rattle.std.specs.Prelude.{◌≡◌, ℕ, ◌+◌, ◌*◌, List, length, Some, slice_get}
use Rattle.spec_laws.specs.Below.{Cap, EndAt, FlatConnection, IsIn, LeafSetting, MapLine, RW, Spec, Tables, Tcb, Thread, ThreadLine, ThreadOf, WindowLine, memory_pages, object_at, threads_of, windows_of}
use Rattle.spec_laws.specs.Spaced.{IsAt, begins, system}

-- the stack and the buffer of thread i of domain d, in the space of this root
pub record HasRegions (t : Tables) (spec : Spec) (root d i : ℕ) (x : ThreadOf) (tcb : Tcb) : Type 0 where
  pub setting : LeafSetting
  pub settled : slice_get t.settled.leaves x.leaf ≡ Some setting
  pub stack_ends : tcb.sp ≡ begins t d (2 * i) + setting.stack
  pub buffer_at : tcb.addr ≡ begins t d (2 * i + 1)
  pub cap : Cap
  pub buffer : tcb.buffer ≡ Some cap
  pub rights : cap.rights ≡ RW
  pub mapped : IsAt spec root tcb.addr cap

-- the line of window j of domain d, of end e
pub record IsWindowLine (t : Tables) (line : MapLine) : Type 0 where
  pub domain : ℕ
  pub number : ℕ
  pub e : EndAt
  pub here : slice_get (windows_of (system t) domain) number ≡ Some e
  pub connection : FlatConnection
  pub of_connection : slice_get t.flat.connections e.connection ≡ Some connection
  pub is : line
      ≡ WindowLine e.connection e.end (begins t domain (2 * length (threads_of (system t) domain) + number))
      (4096 * memory_pages t.settled e.connection connection)

abbrev pub SaysWindow : MapLine → Type 0
SaysWindow (WindowLine k n vaddr bytes) = Unit {0}
SaysWindow _ = ⊥

pub record AreRegions (t : Tables) (spec : Spec) (root : ℕ → ℕ) (lines : List MapLine) : Type 0 where
  pub threads : (d i place : ℕ) (x : ThreadOf) (tcb : Tcb) → slice_get (threads_of (system t) d) i ≡ Some x
      → IsIn (ThreadLine place x.leaf x.end) lines → object_at spec place ≡ Some (Thread tcb)
      → HasRegions t spec (root d) d i x tcb
  pub windows_only : (line : MapLine) → IsIn line lines → SaysWindow line → IsWindowLine t line
  pub windows_every : (line : MapLine) → IsWindowLine t line → IsIn line lines
