-- The numbers of frames, as they are given: own frames one behind another, and the frames of memory behind all of them.
use Rattle.std.specs.Prelude.{◌≡◌, ◌<◌, ◌+◌, ◌^◌, ◌==◌, if◌then◌else◌, ℕ, Bool, true, false, List, [], ◌∷◌, length, map, sum, slice_index_or, Option, Some, slice_get, ◌&&◌}
use Rattle.vspace_layout.specs.Below.{Flat, FlatConnection, FlatEnd, Settled, before, count_by, gather, option_and_then, option_map_or, position}
use Rattle.vspace_layout.specs.declared.mapped.MappedPage.{MappedPage}
use Rattle.vspace_layout.specs.declared.mapped.Shown.{Shown}
use Rattle.vspace_layout.specs.declared.mapped.Shown.TheVariants.{Own, Memory}
use Rattle.vspace_layout.specs.declared.spaces.FrameInfo.{FrameInfo}
use Rattle.vspace_layout.specs.declared.spaces.Page.{Page}
use Rattle.vspace_layout.specs.Frames.{device_frames, memory_before, own_frame}
use Rattle.vspace_layout.specs.Memory.{memory_paddr, memory_pages, registers, leads_to}
use Rattle.std.specs.Map.{lookup}
use Rattle.vspace_layout.specs.declared.ports.PortKey.{PortKey}
use Rattle.vspace_layout.specs.declared.ports.Ports.{Ports}

-- of what a page shows, where `at` is the number of the next own frame, and firsts has the number of the first frame of each
-- connection's memory
abbrev pub number_of : List ℕ → ℕ → Shown → ℕ
number_of firsts at (Own fill) = at
number_of firsts at (Memory k j) = slice_index_or firsts k 0 + j

-- memory has a number for the page
abbrev pub IsNumbered : List ℕ → Shown → Type 0
IsNumbered firsts (Own fill) = Unit {0}
IsNumbered firsts (Memory k j) = (k < length firsts) × (slice_index_or firsts k 0 + j < 2 ^ 32)

abbrev pub AreAllNumbered : List ℕ → List (List MappedPage) → Type 0
AreAllNumbered firsts mapped =
    (d n : ℕ) (pages : List MappedPage) (page : MappedPage)
    → slice_get mapped d ≡ Some pages → slice_get pages n ≡ Some page → IsNumbered firsts page.shown

-- the own frames of these pages
abbrev pub own_added : ℕ → List MappedPage → List FrameInfo
own_added d pages = gather (λ n p. own_frame d p.shown) pages

abbrev pub numbered_page : ℕ → List ℕ → ℕ → List MappedPage → ℕ → MappedPage → Page
numbered_page d firsts at pages n p =
    record {
      vaddr = p.at;
      frame = number_of firsts (at + before (λ m q. own_frame d q.shown) pages n) p.shown;
      write = p.write;
      read = p.read;
    }

-- the pages of a domain, where so many frames stand before its own
abbrev pub pages_numbered : ℕ → List ℕ → ℕ → List MappedPage → List Page
pages_numbered d firsts at pages = gather (λ n p. numbered_page d firsts at pages n p ∷ []) pages

-- the same of all domains, where so many frames stand before all own ones
abbrev pub all_numbered : List ℕ → ℕ → List (List MappedPage) → List (List Page)
all_numbered firsts at mapped = gather (λ d pages. pages_numbered d firsts (at + before own_added mapped d) pages ∷ []) mapped

-- ---- counts

abbrev pub is_own_frame : Shown → Bool
is_own_frame (Own fill) = true
is_own_frame (Memory k j) = false

abbrev pub is_own : MappedPage → Bool
is_own p = is_own_frame p.shown

abbrev pub all_own : List (List MappedPage) → ℕ
all_own spaces = sum (map (λ pages. count_by is_own pages) spaces)

-- ---- memory

abbrev pub memory_first : ℕ → Flat → Settled → ℕ → FlatConnection → ℕ
memory_first own flat settled k c = own + memory_before flat settled k c

-- the number of the first frame of each connection's memory, where so many frames stand before all memory
abbrev pub memory_firsts : ℕ → Flat → Settled → List ℕ
memory_firsts own flat settled = gather (λ k c. memory_first own flat settled k c ∷ []) flat.connections

-- for each element how many things stand before those that it gives, where so many stand before all
abbrev pub places_of : {X Y : Type 0} → ℕ → (ℕ → X → List Y) → List X → List ℕ
places_of start f xs = gather (λ k x. (start + before f xs k) ∷ []) xs

abbrev pub is_that : Option ℕ → ℕ → Bool
is_that first k = option_map_or (λ n. n == k) first false

abbrev pub frames_where : Settled → Bool → ℕ → FlatConnection → FlatEnd → List FrameInfo
frames_where settled is_first k c e =
    if is_first then device_frames e.leaf (memory_paddr settled k c) (memory_pages settled k c) else []

-- the frames of a connection's registers, by the first connection to them
abbrev pub frames_by : Settled → Option ℕ → ℕ → FlatConnection → List FrameInfo
frames_by settled first k c = option_map_or (frames_where settled (is_that first k) k c) (registers c) []

-- how many frames of memory stand before those of connection k, by those before what each adds to shared memory and to
-- registers, and by the first connection to its registers
abbrev pub first_of : List ℕ → List ℕ → Option ℕ → ℕ → ℕ
first_of shared registered first k = option_map_or (λ n. slice_index_or registered n 0) first (slice_index_or shared k 0)

abbrev pub firsts_from : ℕ → List ℕ → List ℕ → List (Option ℕ) → List ℕ
firsts_from own shared registered numbers = gather (λ k first. (own + first_of shared registered first k) ∷ []) numbers

pub record AreFirsts (own : ℕ) (shared registered : List ℕ) (numbers : List (Option ℕ)) : Type 0 where
  pub each : length shared ≡ length numbers
  pub listed : (k n : ℕ) → slice_get numbers k ≡ Some (Some n) → n < length registered
  pub few : (k : ℕ) (first : Option ℕ) → slice_get numbers k ≡ Some first → own + first_of shared registered first k < 2 ^ 64

abbrev pub same_key : PortKey → PortKey → Bool
same_key k l = k.leaf == l.leaf && k.member == l.member

abbrev pub key_of : FlatEnd → PortKey
key_of e = record { leaf = e.leaf; member = e.member }

abbrev pub first_at : Ports → PortKey → Option ℕ
first_at t k = lookup (same_key k) t.firsts.entries

-- whether the connection leads to the dataport
abbrev pub leads_by : PortKey → FlatConnection → Bool
leads_by k c = option_map_or (λ f. same_key (key_of f) k) (registers c) false

-- what a table has for the registers to which a connection leads
abbrev pub first_noted : Ports → FlatConnection → Option ℕ
first_noted t c = option_and_then (λ e. first_at t (key_of e)) (registers c)

-- the first connection to the registers to which this one leads
abbrev pub first_number : List FlatConnection → FlatConnection → Option ℕ
first_number connections c = option_and_then (λ e. position (leads_to e) connections) (registers c)

abbrev pub first_numbers : List FlatConnection → List (Option ℕ)
first_numbers connections = map (first_number connections) connections
