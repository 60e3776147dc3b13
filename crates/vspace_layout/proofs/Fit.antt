-- Where no limit on pages is passed, pages are few and have numbers
use Rattle.vspace_layout.proofs.Common.{AreFit, CanLay, Domain, EndAt, Flat, FlatConnection, Given, Images, IsIn, IsNumbered, List, MappedPage, None, Option, Region, SectionPage, Settled, Some, ThreadOf, [], all_mapped, all_own, ap, arch_of, arith}
use Rattle.vspace_layout.proofs.Common.{below, domain_threads, domain_windows, ends, flat_map, from_gather, from_get_map, from_map, from_range, gather_map, gather_ones, gather_same, get_or, in_append, in_place, inl, inr, length, length-map}
use Rattle.vspace_layout.proofs.Common.{length_append, map, map-map, mapped_pages, memory_before, memory_first, memory_firsts, memory_pages, memory_part, option_map_or, page_counts, page_of, pages_from, pages_of_region, refl, region_part}
use Rattle.vspace_layout.proofs.Common.{region_start, regions_at, regions_in, section_page, section_pages, section_part, sections_end, slice_get, subst, sum, sym, thread_regions, window_region, wired_of, ℕ, ⊎_elim, ◌++◌, ◌+◌, ◌<◌, ◌^◌, ◌∙◌, ◌∷◌, ◌≡◌}
use Rattle.vspace_layout.proofs.Common.{rules, ◌≤◌}
use Rattle.vspace_layout.proofs.Few.{own_few, registers_few, shared_few}
use Rattle.vspace_layout.proofs.Joining.{here, mapped_here, own_number_of}
use Rattle.vspace_layout.proofs.Laying.{ones_or}
use Rattle.vspace_layout.proofs.MemoryNumbers.{memory_upto}

-- ---- numbers of pages

-- page j of the memory of a connection
memory_numbered : (own : ℕ) (flat : Flat) (settled : Settled) (k j : ℕ) (c : FlatConnection)
    → own + length (memory_part flat settled) + 65536 < 2 ^ 32 → memory_pages settled k c ≤ 65536
    → slice_get flat.connections k ≡ Some c → j < memory_pages settled k c
    → (k < length (memory_firsts own flat settled)) × (get_or (memory_firsts own flat settled) k 0 + j < 2 ^ 32)
memory_numbered own flat settled k j c small few at l =
    let many = gather_ones (memory_first own flat settled) flat.connections in
    let there = below flat.connections k c at in
    let first : get_or (memory_firsts own flat settled) k 0 ≡ own + memory_before flat settled k c =
    ones_or (memory_first own flat settled) flat.connections k
    ∙ ap (λ (o : Option FlatConnection). option_map_or (λ x. memory_first own flat settled k x) o 0) at in
    let most = memory_upto flat settled k c in
    (omega (arith, many, there), omega (arith, first, most, small, few, l))

-- the pages of a region all have numbers
abbrev HasNumbers : List ℕ → Settled → Region → Type 0
HasNumbers firsts settled r = (start j : ℕ) → j < r.pages → IsNumbered firsts (page_of settled start r j).shown

threads_numbered : (firsts : List ℕ) (settled : Settled) (ts : List ThreadOf) (r : Region)
    → IsIn r (flat_map (thread_regions settled) ts) → HasNumbers firsts settled r
threads_numbered firsts settled [] r i = absurd i
threads_numbered firsts settled (t ∷ ts) r (inl e) = subst (HasNumbers firsts settled) e (λ start j l. tt)
threads_numbered firsts settled (t ∷ ts) r (inr (inl e)) = subst (HasNumbers firsts settled) e (λ start j l. tt)
threads_numbered firsts settled (t ∷ ts) r (inr (inr i)) = threads_numbered firsts settled ts r i

window_numbered : (own : ℕ) (flat : Flat) (settled : Settled) (e : EndAt)
    → own + length (memory_part flat settled) + 65536 < 2 ^ 32
    → ((k : ℕ) (c : FlatConnection) → slice_get flat.connections k ≡ Some c → memory_pages settled k c ≤ 65536)
    → HasNumbers (memory_firsts own flat settled) settled (window_region flat settled e)
window_numbered own flat settled e small few = λ start j l. by_connection (slice_get flat.connections e.connection) refl j l
  where
    by_connection : (o : Option FlatConnection) → slice_get flat.connections e.connection ≡ o → (j : ℕ)
        → j < option_map_or (memory_pages settled e.connection) o 0
        → (e.connection < length (memory_firsts own flat settled))
        × (get_or (memory_firsts own flat settled) e.connection 0 + j < 2 ^ 32)
    by_connection None at j l = absurd (omega (arith, l))
    by_connection (Some c) at j l = memory_numbered own flat settled e.connection j c small (few e.connection c at) at l

regions_numbered : (own : ℕ) (flat : Flat) (settled : Settled) (ts : List ThreadOf) (ws : List EndAt)
    → own + length (memory_part flat settled) + 65536 < 2 ^ 32
    → ((k : ℕ) (c : FlatConnection) → slice_get flat.connections k ≡ Some c → memory_pages settled k c ≤ 65536) → (r : Region)
    → IsIn r (regions_in flat settled ts ws) → HasNumbers (memory_firsts own flat settled) settled r
regions_numbered own flat settled ts ws small few r i =
    ⊎_elim (threads_numbered (memory_firsts own flat settled) settled ts r)
    (λ j. let w : (e : EndAt) × IsIn e ws × (window_region flat settled e ≡ r) = from_map (window_region flat settled) r ws j in
    subst (HasNumbers (memory_firsts own flat settled) settled) w.2 (window_numbered own flat settled w.0 small few))
    (in_append r (flat_map (thread_regions settled) ts) (map (window_region flat settled) ws) i)

abbrev PageHas : List ℕ → MappedPage → Type 0
PageHas firsts p = IsNumbered firsts p.shown

pages_numbered : (firsts : List ℕ) (settled : Settled) (images : Images) (leaves : List ℕ) (base : ℕ) (rs : List Region)
    → ((r : Region) → IsIn r rs → HasNumbers firsts settled r)
    → (p : MappedPage) → IsIn p (section_part images leaves ++ region_part settled base rs) → PageHas firsts p
pages_numbered firsts settled images leaves base rs all p i =
    ⊎_elim
    (λ j. let s : (x : SectionPage) × IsIn x (section_pages images leaves) × (section_page x ≡ p) = from_map section_page p
    (section_pages images leaves) j in subst (PageHas firsts) s.2 tt)
    (λ j. let g : (k : ℕ) × (r : Region) × (slice_get rs k ≡ Some r) × IsIn p (pages_of_region settled base rs k r) = from_gather
    (pages_of_region settled base rs) p rs j in
    by_region g.0 g.1 g.2 g.3)
    (in_append p (section_part images leaves) (region_part settled base rs) i)
  where
    by_page : (start : ℕ) (r : Region) → HasNumbers firsts settled r → IsIn p (pages_from settled start r) → PageHas firsts p
    by_page start r has i = search (rules, from_map, from_range)

    by_region : (k : ℕ) (r : Region) → slice_get rs k ≡ Some r → IsIn p (pages_of_region settled base rs k r) → PageHas firsts p
    by_region k r at i = by_page (region_start base rs k) r (all r (in_place r rs k at)) i

-- ---- all

lengths : (t : Given) → sum (map (λ (ps : List MappedPage). length ps) (all_mapped t)) ≡ sum (page_counts t)
lengths t =
    ap sum (
    map-map (λ (ps : List MappedPage). length ps) (λ (x : Domain). here t x.leaves) t.flat.domains
    ∙ sym (gather_map (λ (x : Domain). length (here t x.leaves)) t.flat.domains)
    ∙ sym (gather_same (λ d (x : Domain). length (mapped_pages t d) ∷ []) (λ d (x : Domain). length (here t x.leaves) ∷ [])
    t.flat.domains (λ k x e. ap (λ (ps : List MappedPage). length ps ∷ []) (mapped_here t k x e)))
    )

pub are_fit : (t : Given) → CanLay t → sum (page_counts t) ≤ 65536
    → AreFit t.flat t.settled (all_mapped t)
are_fit t can few = record {
  domains = length-map t.flat.domains (λ (x : Domain). here t x.leaves);
  count = can.domains;
  pages = let e = lengths t in omega (arith, e, few);
  numbers = λ d n pages page at there. numbered d n pages page at there;
  memory = let s = small in omega (arith, s);
}
  where
    mapped : List (List MappedPage)
    mapped = all_mapped t

    own : ℕ
    own = all_own mapped

    small : own + length (memory_part t.flat t.settled) + 65536 < 2 ^ 32
    small = grind (arith, own_number_of, own_few, shared_few, registers_few, length_append)

    numbered : (d n : ℕ) (pages : List MappedPage) (page : MappedPage) → slice_get mapped d ≡ Some pages
        → slice_get pages n ≡ Some page → IsNumbered (memory_firsts own t.flat t.settled) page.shown
    numbered d n pages page at there =
        let x : (x : Domain) × (slice_get t.flat.domains d ≡ Some x) × (here t x.leaves ≡ pages) =
        from_get_map (λ (x : Domain). here t x.leaves) t.flat.domains d pages at in
        let i : IsIn page (here t x.0.leaves) = subst (λ (z : List MappedPage). IsIn page z) (sym x.2)
        (in_place page pages n there) in
        pages_numbered (memory_firsts own t.flat t.settled) t.settled t.images x.0.leaves (sections_end (arch_of t.images.images))
        (regions_at (wired_of t) x.0.leaves)
        (regions_numbered own t.flat t.settled (domain_threads t.flat (ends t) x.0.leaves)
        (domain_windows t.flat (ends t) x.0.leaves) small can.memory) page i
