-- Spaces that are laid domain by domain are those of the definition
use Rattle.vspace_layout.proofs.Common.{Domain, EndAt, Flat, Given, List, MappedPage, Memory, Option, Outline, Own, Page, Region, Settled, Shown, Some, Space, ThreadOf, [], all_mapped, ap, arith, at_place, base, before, below, domain_mapped}
use Rattle.vspace_layout.proofs.Common.{flat_map, gather, gather_same, get_map, get_or, get_or_from_slice_get, leaves_of, length, length-map, length_append, map, mapped_pages, memory_firsts, memory_part, number_of, number_shown, option_map_or}
use Rattle.vspace_layout.proofs.Common.{outline, outlines, own_added, own_frames, own_number, own_part, pages_at, pages_numbered, refl, region_start, regions, regions_in, slice_get, space_at, space_in, spaces_in, stack_pages, start, start_at}
use Rattle.vspace_layout.proofs.Common.{rules, starts_in, suc, sym, thread_at, thread_places, thread_regions, threads_of, window_pages, window_place, window_places, windows_of, wired_of, zero, ℕ, ◌*◌, ◌++◌, ◌+◌, ◌<◌, ◌∙◌, ◌∷◌, ◌≡◌}
use Rattle.vspace_layout.specs.declared.spaces.ThreadPlace.{ThreadPlace}
use Rattle.vspace_layout.specs.declared.spaces.Window.{Window}
use Rattle.vspace_layout.specs.FrameNumbers.{memory_first as first_for}
use Rattle.vspace_layout.specs.Frames.{memory_first}
use Rattle.vspace_layout.specs.Laid.{page, space, spaces_of, thread_place, window_at}
use Rattle.vspace_layout.proofs.Joining.{gather_mapped, own_before, own_gathered, own_number_of}
use Rattle.vspace_layout.proofs.Joined.{both}

-- ---- lists

-- one number from each element, read with a default
pub ones_or : {X : Type 0} (f : ℕ → X → ℕ) (xs : List X) (k : ℕ) → get_or (gather (λ n x. f n x ∷ []) xs) k 0 ≡ option_map_or
    (λ x. f k x) (slice_get xs k) 0
ones_or f [] zero = refl
ones_or f [] (suc k) = refl
ones_or f (x ∷ xs) zero = refl
ones_or f (x ∷ xs) (suc k) = ones_or (λ n z. f (suc n) z) xs k

-- ---- pages

first_same : (t : Given) (k : ℕ) → get_or (memory_firsts (length (own_part t)) t.flat t.settled) k 0 ≡ memory_first t k
first_same t k = ones_or (first_for (length (own_part t)) t.flat t.settled) t.flat.connections k

number_same : (t : Given) (d n : ℕ) (s : Shown) → number_of (memory_firsts (length (own_part t)) t.flat t.settled)
    (own_number t d n) s ≡ number_shown t d n s
number_same t d n (Own fill) = refl
number_same t d n (Memory k j) = ap (λ m. m + j) (first_same t k)

abbrev pub with_frame : MappedPage → ℕ → Page
with_frame p frame = record { vaddr = p.at; frame = frame; write = p.write; read = p.read }

pages_same : (t : Given) (d : ℕ)
    → pages_numbered d (memory_firsts (length (own_part t)) t.flat t.settled) (before (own_frames t) t.flat.domains d)
    (mapped_pages t d) ≡ gather (λ n p. page t d n p ∷ []) (mapped_pages t d)
pages_same t d = search (rules, gather_same, number_same)

mapped_at : (t : Given) (d : ℕ) (x : Domain) → slice_get t.flat.domains d ≡ Some x
    → get_or (all_mapped t) d [] ≡ mapped_pages t d
mapped_at t d x e =
    let F : Domain → List MappedPage = λ y. domain_mapped t y.leaves in
    get_or_from_slice_get (map F t.flat.domains) d (F x) [] (get_map F t.flat.domains d x e)
    ∙ sym (ap (λ (o : Option Domain). domain_mapped t (option_map_or (λ y. y.leaves) o [])) e)

pages_here : (t : Given) (d : ℕ) (x : Domain) → slice_get t.flat.domains d ≡ Some x
    → pages_at t.flat t.settled (all_mapped t) d ≡ gather (λ n p. page t d n p ∷ []) (mapped_pages t d)
pages_here t d x e =
    let mapped = all_mapped t in
    ap (λ own. pages_numbered d (memory_firsts own t.flat t.settled) (before own_added mapped d) (get_or mapped d []))
    (own_number_of t)
    ∙ ap (λ at. pages_numbered d (memory_firsts (length (own_part t)) t.flat t.settled) at (get_or mapped d [])) (own_before t d)
    ∙ ap (λ ps. pages_numbered d (memory_firsts (length (own_part t)) t.flat t.settled) (before (own_frames t) t.flat.domains d)
    ps) (mapped_at t d x e)
    ∙ pages_same t d

-- ---- threads and windows

pub length_threads : (settled : Settled) (ts : List ThreadOf) → length (flat_map (thread_regions settled) ts) ≡ 2 * length ts
length_threads settled [] = refl
length_threads settled (t ∷ ts) = let ih = length_threads settled ts in omega (arith, ih)

pub length_regions : (flat : Flat) (settled : Settled) (ts : List ThreadOf) (ws : List EndAt)
    → length (regions_in flat settled ts ws) ≡ 2 * length ts + length ws
length_regions flat settled ts ws = grind (arith, length_threads, length_append, length-map)

pub start_same : (base : ℕ) (rs : List Region) (n : ℕ) → n < length rs → start_at (starts_in base rs) n ≡ region_start base rs n
start_same base rs n l =
    let x = at_place rs n l in
    ones_or (λ m (r : Region). region_start base rs m) rs n
    ∙ ap (λ (o : Option Region). option_map_or (λ r. region_start base rs n) o 0) x.1

abbrev pub placed : ThreadOf → ℕ → ℕ → ThreadPlace
placed x sp buffer = record { leaf = x.leaf; end = x.end; sp = sp; buffer = buffer }

abbrev pub seen_at : EndAt → ℕ → ℕ → Window
seen_at e vaddr pages = record { end = e; vaddr = vaddr; pages = pages }

threads_same : (t : Given) (d : ℕ) → thread_places t.settled (starts_in (base t) (regions t d)) (threads_of t d) ≡ gather
    (λ i x. thread_place t d i x ∷ []) (threads_of t d)
threads_same t d =
    let rs = regions t d in
    let starts = starts_in (base t) rs in
    gather_same (λ i x. thread_at t.settled starts i x ∷ []) (λ i x. thread_place t d i x ∷ []) (threads_of t d) (λ i x e.
    let l = below (threads_of t d) i x e in
    let many = length_regions t.flat t.settled (threads_of t d) (windows_of t d) in
    let stack = start_same (base t) rs (2 * i) (omega (arith, l, many)) in
    let buffer = start_same (base t) rs (2 * i + 1) (omega (arith, l, many)) in
    ap (λ v. placed x (v + 4096 * stack_pages t.settled x.leaf) (start_at starts (2 * i + 1)) ∷ []) stack
    ∙ ap (λ v. placed x (start t d (2 * i) + 4096 * stack_pages t.settled x.leaf) v ∷ []) buffer)

windows_same : (t : Given) (d : ℕ) → window_places t.flat t.settled (starts_in (base t) (regions t d))
    (2 * length (threads_of t d)) (windows_of t d) ≡ gather (λ j e. window_at t d j e ∷ []) (windows_of t d)
windows_same t d =
    let rs = regions t d in
    let starts = starts_in (base t) rs in
    let first = 2 * length (threads_of t d) in
    gather_same (λ j e. window_place t.flat t.settled starts (first + j) e ∷ []) (λ j e. window_at t d j e ∷ [])
    (windows_of t d) (λ j w e.
    let l = below (windows_of t d) j w e in
    let many = length_regions t.flat t.settled (threads_of t d) (windows_of t d) in
    let here = start_same (base t) rs (first + j) (omega (arith, l, many)) in
    ap (λ v. seen_at w v (window_pages t.flat t.settled w) ∷ []) here)

-- ---- spaces

abbrev made : List Page → List ThreadPlace → List Window → Space
made pages threads windows = record { pages = pages; threads = threads; windows = windows }

space_same : (t : Given) (d : ℕ) (x : Domain) → slice_get t.flat.domains d ≡ Some x
    → space_at t.flat t.settled (base t) (all_mapped t) d (outline (wired_of t) x.leaves) ≡ space t d x
space_same t d x e =
    let pages = pages_at t.flat t.settled (all_mapped t) d in
    let leaves : x.leaves ≡ leaves_of t.flat d = sym (ap (λ (o : Option Domain). option_map_or (λ y. y.leaves) o []) e) in
    ap (λ ls. space_in t.flat t.settled (base t) (outline (wired_of t) ls) pages) leaves
    ∙ ap (λ ps. made ps (thread_places t.settled (starts_in (base t) (regions t d)) (threads_of t d))
    (window_places t.flat t.settled (starts_in (base t) (regions t d)) (2 * length (threads_of t d)) (windows_of t d)))
    (pages_here t d x e)
    ∙ ap (λ ts. made (gather (λ n p. page t d n p ∷ []) (mapped_pages t d)) ts
    (window_places t.flat t.settled (starts_in (base t) (regions t d)) (2 * length (threads_of t d)) (windows_of t d)))
    (threads_same t d)
    ∙ ap (λ ws. made (gather (λ n p. page t d n p ∷ []) (mapped_pages t d)) (gather (λ i y. thread_place t d i y ∷ [])
    (threads_of t d)) ws) (windows_same t d)

-- what is laid domain by domain is what the definition says
pub laid : (t : Given) → spaces_in t.flat t.settled (base t) (outlines (wired_of t)) (all_mapped t) ≡ spaces_of t
laid t =
    let mapped = all_mapped t in
    let of : Domain → Outline = λ x. outline (wired_of t) x.leaves in
    ap (λ ss. both ss (gather own_added mapped ++ memory_part t.flat t.settled))
    (gather_mapped (λ d (o : Outline). space_at t.flat t.settled (base t) mapped d o ∷ []) of t.flat.domains
    ∙ gather_same (λ d (x : Domain). space_at t.flat t.settled (base t) mapped d (of x) ∷ []) (λ d (x : Domain). space t d x ∷ [])
    t.flat.domains (λ k x e. ap (λ s. s ∷ []) (space_same t k x e)))
    ∙ ap (λ fs. both (gather (λ d (x : Domain). space t d x ∷ []) t.flat.domains) (fs ++ memory_part t.flat t.settled))
    (own_gathered t)
