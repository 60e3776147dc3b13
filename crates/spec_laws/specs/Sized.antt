-- How many objects and capabilities laid-out tables come to, and the limits that they keep: of slots, threads, pages, page
-- tables and frames over all domains together. A thread has two pages at least, so threads are half as many as pages may be.
use Rattle.std.specs.Prelude.{◌≤◌, ℕ, ◌+◌, ◌*◌, [], ◌∷◌, length, map, sum}
use Rattle.spec_laws.specs.Below.{Spec, Tables, all_tables, gather, pages_at, threads_at, uses_at}
use Rattle.capdl_write.specs.Writable.{caps_of}

-- over all domains
abbrev pub use_count : Tables → ℕ
use_count t = sum (gather (λ d x. length (uses_at t d) ∷ []) t.flat.domains)

abbrev pub page_count : Tables → ℕ
page_count t = sum (gather (λ d x. length (pages_at t d) ∷ []) t.flat.domains)

abbrev pub thread_count : Tables → ℕ
thread_count t = sum (gather (λ d x. length (threads_at t d) ∷ []) t.flat.domains)

-- ---- what they come to

-- the most objects: a CNode for each domain, one for each thread, two for each connection, a lock for each slot, and page
-- tables and frames
abbrev pub object_sum : Tables → ℕ
object_sum t =
    length t.flat.domains
    + (thread_count t + (2 * length t.flat.connections + (use_count t + (length (all_tables t) + length t.spaces.frames))))

-- the most capabilities: one in each slot, three in each thread, one in each interrupt, and one for each page and page table
abbrev pub cap_sum : Tables → ℕ
cap_sum t = use_count t + (3 * thread_count t + (length t.flat.connections + (page_count t + length (all_tables t))))

-- the capabilities of all objects
abbrev pub cap_count : Spec → ℕ
cap_count spec = sum (map (λ e. caps_of e.object) spec.entries)

-- ---- limits

pub record IsSized (t : Tables) : Type 0 where
  pub domains : length t.flat.domains ≤ 1024
  pub connections : length t.flat.connections ≤ 4096
  pub uses : use_count t ≤ 65536
  pub pages : page_count t ≤ 65536
  pub threads : thread_count t ≤ 32768
  pub tables : length (all_tables t) ≤ 65536
  pub frames : length t.spaces.frames ≤ 65536
