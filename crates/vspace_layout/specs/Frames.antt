-- The frames, in order: for each domain those of its own, by address; then for each connection of shared memory its pages;
-- then the registers of each dataport of a device that is joined, in the order of the first connection to it, with their
-- addresses. An own frame is its domain's, shared memory the connection's, registers the device's. The number of a frame is
-- a sum over those before it.
use Rattle.std.specs.Prelude.{ℕ, ◌+◌, ◌*◌, ◌==◌, Bool, false, if◌then◌else◌, List, [], ◌∷◌, ◌++◌, map, length, Option, Some, None, slice_get}
use Rattle.vspace_layout.specs.Below.{Domain, Fill, Flat, FlatConnection, FlatEnd, Settled, before, gather, option_map_or, range_with_len}
use Rattle.vspace_layout.specs.declared.mapped.Shown.{Shown}
use Rattle.vspace_layout.specs.declared.mapped.Shown.TheVariants.{Own, Memory}
use Rattle.vspace_layout.specs.declared.owner.Owner.{Owner}
use Rattle.vspace_layout.specs.declared.owner.Owner.TheVariants.{OfDomain, OfConnection, OfLeaf}
use Rattle.vspace_layout.specs.declared.spaces.FrameInfo.{FrameInfo}
use Rattle.vspace_layout.specs.Given.{Given}
use Rattle.vspace_layout.specs.MappedPages.{mapped_pages}
use Rattle.vspace_layout.specs.Memory.{first_to, is_shared, memory_paddr, memory_pages, registers}

abbrev pub frame : Owner → Option ℕ → Option Fill → FrameInfo
frame owner paddr fill = record { owner = owner; paddr = paddr; fill = fill }

-- ---- own frames

abbrev pub own_frame : ℕ → Shown → List FrameInfo
own_frame d (Own fill) = frame (OfDomain d) None fill ∷ []
own_frame d (Memory k j) = []

abbrev pub own_frames : Given → ℕ → Domain → List FrameInfo
own_frames t d domain = gather (λ n p. own_frame d p.shown) (mapped_pages t d)

-- ---- memory of connections

abbrev pub connection_frames : ℕ → ℕ → List FrameInfo
connection_frames k count = map (λ j. frame (OfConnection k) None None) (range_with_len 0 count)

abbrev pub shared_frames : Settled → ℕ → FlatConnection → List FrameInfo
shared_frames settled k c = if is_shared c.connector then connection_frames k (memory_pages settled k c) else []

-- page j of the registers of a device that begin at an address
abbrev pub device_frame : ℕ → ℕ → ℕ → FrameInfo
device_frame leaf paddr j = frame (OfLeaf leaf) (Some (paddr + 4096 * j)) None

abbrev pub device_frames : ℕ → ℕ → ℕ → List FrameInfo
device_frames leaf paddr count = map (device_frame leaf paddr) (range_with_len 0 count)

abbrev pub register_frame : Settled → ℕ → FlatConnection → FlatEnd → ℕ → FrameInfo
register_frame settled k c e j = device_frame e.leaf (memory_paddr settled k c) j

abbrev pub is_first : Flat → ℕ → FlatEnd → Bool
is_first flat k e = option_map_or (λ n. n == k) (first_to flat e) false

abbrev pub frames_at : Flat → Settled → ℕ → FlatConnection → FlatEnd → List FrameInfo
frames_at flat settled k c e = if is_first flat k e then device_frames e.leaf (memory_paddr settled k c)
    (memory_pages settled k c) else []

-- by the first connection to the registers alone
abbrev pub register_frames : Flat → Settled → ℕ → FlatConnection → List FrameInfo
register_frames flat settled k c = option_map_or (frames_at flat settled k c) (registers c) []

-- ---- all

abbrev pub own_part : Given → List FrameInfo
own_part t = gather (own_frames t) t.flat.domains

abbrev pub shared_part : Flat → Settled → List FrameInfo
shared_part flat settled = gather (shared_frames settled) flat.connections

abbrev pub register_part : Flat → Settled → List FrameInfo
register_part flat settled = gather (register_frames flat settled) flat.connections

abbrev pub memory_part : Flat → Settled → List FrameInfo
memory_part flat settled = shared_part flat settled ++ register_part flat settled

abbrev pub frames : Given → List FrameInfo
frames t = own_part t ++ memory_part t.flat t.settled

-- ---- numbers

-- of page n of a domain, where it is an own frame
abbrev pub own_number : Given → ℕ → ℕ → ℕ
own_number t d n = before (own_frames t) t.flat.domains d + before (λ m p. own_frame d p.shown) (mapped_pages t d) n

-- how many frames of memory stand in front of the registers of this end
abbrev pub registers_before : Flat → Settled → FlatEnd → ℕ
registers_before flat settled e =
    length (shared_part flat settled) + option_map_or (before (register_frames flat settled) flat.connections) (first_to flat e) 0

-- how many frames of memory stand in front of those of connection k
abbrev pub memory_before : Flat → Settled → ℕ → FlatConnection → ℕ
memory_before flat settled k c = option_map_or (registers_before flat settled) (registers c)
    (before (shared_frames settled) flat.connections k)

-- of the first page of the memory of connection k
abbrev pub memory_first : Given → ℕ → ℕ
memory_first t k = option_map_or (λ c. length (own_part t) + memory_before t.flat t.settled k c)
    (slice_get t.flat.connections k) 0

-- of page j of it
abbrev pub memory_number : Given → ℕ → ℕ → ℕ
memory_number t k j = memory_first t k + j

-- of what page n of a domain shows
abbrev pub number_shown : Given → ℕ → ℕ → Shown → ℕ
number_shown t d n (Own fill) = own_number t d n
number_shown t d n (Memory k j) = memory_number t k j
