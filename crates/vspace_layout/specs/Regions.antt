-- The regions of a domain's space above the base: for each thread, in their order, its stack and then its IPC buffer of one
-- page; and then for each end of the domain's leaves that sees memory, leaf by leaf, its window. In front of each region one
-- page stays free. So a region begins at
--
--   base + 4096 * (n + 1 + the pages of the regions before it)
--
-- where n is its number: the free pages up to it, and the pages of those before it.
use Rattle.std.specs.Prelude.{ℕ, ◌+◌, ◌*◌, ◌/◌, Bool, true, false, if◌then◌else◌, List, [], ◌∷◌, ◌++◌, map, take, slice_get}
use Rattle.vspace_layout.specs.Below.{Connector, EndAt, Flat, From, Mmio, Role, Settled, SharedMemory, end_of, ends_at, flat_map, option_map_or}
use Rattle.vspace_layout.specs.declared.region.Content.{Content}
use Rattle.vspace_layout.specs.declared.region.Content.TheVariants.{Stack, Buffer, Window}
use Rattle.vspace_layout.specs.declared.region.Region.{Region}
use Rattle.vspace_layout.specs.declared.thread.ThreadOf.{ThreadOf}
use Rattle.vspace_layout.specs.Given.{Given, base, ends, leaves_of}
use Rattle.vspace_layout.specs.Memory.{memory_pages}
use Rattle.vspace_layout.specs.Threads.{domain_threads}

abbrev pub region : Content → ℕ → Region
region content pages = record { content = content; pages = pages }

-- ---- threads

abbrev pub stack_pages : Settled → ℕ → ℕ
stack_pages settled leaf = option_map_or (λ s. s.stack / 4096) (slice_get settled.leaves leaf) 0

abbrev pub thread_regions : Settled → ThreadOf → List Region
thread_regions settled x = region Stack (stack_pages settled x.leaf) ∷ region Buffer 1 ∷ []

abbrev pub threads_of : Given → ℕ → List ThreadOf
threads_of t d = domain_threads t.flat (ends t) (leaves_of t.flat d)

-- ---- windows

abbrev pub is_window : Connector → Role → Bool
is_window SharedMemory role = true
is_window Mmio From = true
is_window _ _ = false

-- whether the end sees memory: an end of shared memory, or the one of software at a device's registers
abbrev pub sees_memory : Flat → EndAt → Bool
sees_memory flat e = option_map_or (λ x. is_window x.0 x.1.role) (end_of flat e.connection e.end) false

abbrev pub end_window : Flat → EndAt → List EndAt
end_window flat e = if sees_memory flat e then e ∷ [] else []

abbrev pub leaf_windows : Flat → List (List EndAt) → ℕ → List EndAt
leaf_windows flat ends leaf = flat_map (end_window flat) (ends_at ends leaf)

-- the ends that see memory, of a domain with these leaves
abbrev pub domain_windows : Flat → List (List EndAt) → List ℕ → List EndAt
domain_windows flat ends leaves = flat_map (leaf_windows flat ends) leaves

abbrev pub windows_of : Given → ℕ → List EndAt
windows_of t d = domain_windows t.flat (ends t) (leaves_of t.flat d)

abbrev pub window_pages : Flat → Settled → EndAt → ℕ
window_pages flat settled e = option_map_or (memory_pages settled e.connection) (slice_get flat.connections e.connection) 0

abbrev pub window_region : Flat → Settled → EndAt → Region
window_region flat settled e = region (Window e) (window_pages flat settled e)

-- ---- all, and where they stand

-- of a domain with these threads and windows: thread i has the regions 2 i and 2 i + 1, window j the region of its number
-- behind those of all threads
abbrev pub regions_in : Flat → Settled → List ThreadOf → List EndAt → List Region
regions_in flat settled threads windows = flat_map (thread_regions settled) threads ++ map (window_region flat settled) windows

abbrev pub regions : Given → ℕ → List Region
regions t d = regions_in t.flat t.settled (threads_of t d) (windows_of t d)

abbrev pub pages_in : List Region → ℕ
pages_in [] = 0
pages_in (r ∷ rs) = r.pages + pages_in rs

-- where region n begins
abbrev pub region_start : ℕ → List Region → ℕ → ℕ
region_start base rs n = base + 4096 * (n + 1 + pages_in (take n rs))

abbrev pub start : Given → ℕ → ℕ → ℕ
start t d n = region_start (base t) (regions t d) n

-- the address of thread i's buffer
abbrev pub buffer_start : Given → ℕ → ℕ → ℕ
buffer_start t d i = start t d (2 * i + 1)
