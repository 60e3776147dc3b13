-- What is found at an address of a space is what is mapped there
use Rattle.spec_laws.proofs.Common.{Aarch64, Arch, Arm11, Buffer, CanMap, Cap, Content, Domain, IsAt, IsIn, IsRegionPage, List, MappedPage, Mapping, None, Object, Page, PagesRise, Region, SectionPage, SectionsStand, Some, Space, Spaces}
use Rattle.spec_laws.proofs.Common.{Tables, Walk, Window, [], ap, arch, arith, base, begins, below, below_count, drop, each_all, each_in, ends, ends_at, few_at, flat_map, found_before, from_gather, from_map, gather, get_ones, in_append, in_gather}
use Rattle.spec_laws.proofs.Common.{in_map, in_place, inl, inr, leaf_threads, leaves_of, length, map, mapped_pages, memory_rights, number_shown, objects_from, option_map_or, page, page_mapping, page_of, pages_at, pages_in, pages_of_region, place_of}
use Rattle.spec_laws.proofs.Common.{range_with_len, refl, region, region_page, region_part, regions, regions_in, rising, root_of, root_span, root_spans, section_page, section_pages, section_part, sections_stand, server, shapes, slice_get, space}
use Rattle.spec_laws.proofs.Common.{rules, spec_of, subst, suc, sym, system, take, thread, threads_of, windows_of, zero, ℕ, ◌%◌, ◌*◌, ◌++◌, ◌+◌, ◌/◌, ◌<◌, ◌↔◌, ◌∙◌, ◌∷◌, ◌≡◌, ◌≤◌}
use Rattle.vspace_layout.specs.declared.thread.ThreadOf.{ThreadOf}
use Rattle.vspace_layout.specs.Threads.{domain_threads}
use Rattle.spec_laws.proofs.Paging.{region_in}
use Rattle.spec_laws.proofs.Rooted.{frames_from, from_root, tables_of_domain}

-- ---- regions end below what a root spans

pages_before : (rs : List Region) (n : ℕ) (r : Region) → slice_get rs n ≡ Some r → pages_in (take n rs) + r.pages ≤ pages_in rs
pages_before [] n r e = cc
pages_before (x ∷ rs) zero r e = grind (arith)
pages_before (x ∷ rs) (suc n) r e = let l = pages_before rs n r e in omega (arith, l)

at_is : (s : _) (c : Content) (at j : ℕ) → (region_page s c at j).at ≡ at
at_is s (Window e) at j = refl
at_is s _ at j = refl

some_thread : (t : Tables) (ls : List ℕ) → 0 < length ls → (y : ThreadOf) × (ys : List ThreadOf)
    × (domain_threads t.flat (ends (system t)) ls ≡ y ∷ ys)
some_thread t [] l = absurd (omega (arith, l))
some_thread t (n ∷ ls) l =
    let all = ends (system t) in
    (thread n None, flat_map (server t.flat n) (ends_at all n) ++ flat_map (leaf_threads t.flat all) ls, refl)

module _ (t : Tables) (can : CanMap t) (d : ℕ) (x : Domain) (h : slice_get t.flat.domains d ≡ Some x) where
  abbrev pub maps : List Mapping
  maps = map (page_mapping (frames_from t)) (pages_at t d)

  -- page n of the domain, and its mapping
  abbrev pub laid_page : ℕ → MappedPage → Page
  laid_page n p = page (system t) d n p

  abbrev pub mapping : ℕ → MappedPage → Mapping
  mapping n p = page_mapping (frames_from t) (laid_page n p)

  pub pages_are : pages_at t d ≡ gather (λ n p. laid_page n p ∷ []) (mapped_pages (system t) d)
  pages_are =
      let f : ℕ → Domain → Space = λ n z. space (system t) n z in
      ap (λ (z : Spaces). option_map_or (λ (w : Space). w.pages) (slice_get z.spaces d) []) can.spaces
      ∙ ap (λ o. option_map_or (λ (w : Space). w.pages) o []) (get_ones f t.flat.domains d x h)

  pub in_maps : (n : ℕ) (p : MappedPage) → slice_get (mapped_pages (system t) d) n ≡ Some p → IsIn (mapping n p) maps
  in_maps n p e =
      in_map (page_mapping (frames_from t)) (laid_page n p) (pages_at t d) (subst (λ z. IsIn (laid_page n p) z) (sym pages_are)
      (in_gather (λ n p. laid_page n p ∷ []) (laid_page n p) (mapped_pages (system t) d) n p e (inl refl)))

  pub record IsMapping (m : Mapping) : Type 0 where
    pub number : ℕ
    pub shown : MappedPage
    pub here : slice_get (mapped_pages (system t) d) number ≡ Some shown
    pub is : mapping number shown ≡ m

  pub from_maps : (m : Mapping) → IsIn m maps → IsMapping m
  from_maps m i = search (rules, from_map, frames_from, from_gather, pages_are)

  -- ---- all pages stand below what the root spans

  pub stand : SectionsStand (system t) d
  stand = sections_stand (system t) can.numbered can.sound can.clean d

  pub rise : PagesRise (system t) d
  rise = rising (system t) d stand

  region_below : (n j : ℕ) (r : Region) → slice_get (regions (system t) d) n ≡ Some r → j < r.pages
      → begins t d n + 4096 * j < root_span (shapes (arch t))
  region_below n j r e l =
      let rs = regions (system t) d in let few = few_at (system t) can.lay can.few d x h in
      root_spans (arch t) (begins t d n + 4096 * j) (omega (arith, few, pages_before rs n r e, below rs n r e, l))

  page_below : (p : MappedPage) → IsIn p (mapped_pages (system t) d) → p.at < root_span (shapes (arch t))
  page_below p i =
      let s = system t in
      elim (in_append p (section_part t.images (leaves_of t.flat d)) (region_part t.settled (base s) (regions s d)) i) [
        | inl j ↦
            let q = from_map section_page p (section_pages t.images (leaves_of t.flat d)) j in
            let l : q.0.vaddr + 4096 ≤ base s = each_in (λ (z : SectionPage). z.vaddr + 4096 ≤ base s)
            (section_pages t.images (leaves_of t.flat d)) q.0 (each_all (λ (z : SectionPage). z.vaddr + 4096 ≤ base s)
            (section_pages t.images (leaves_of t.flat d)) stand.below) q.1 in
            let e : q.0.vaddr ≡ p.at = ap (λ (z : MappedPage). z.at) q.2 in
            root_spans (arch t) p.at (omega (arith, l, e))
        | inr j ↦
            let a = from_gather (pages_of_region t.settled (base s) (regions s d)) p (regions s d) j in
            let b = from_map (page_of t.settled (begins t d a.0) a.1) p (range_with_len 0 a.1.pages) a.3 in
            let l = region_below a.0 b.0 a.1 a.2 (below_count a.1.pages b.0 b.1) in
            let e : begins t d a.0 + 4096 * b.0 ≡ p.at = search (rules, at_is) in
            let P : ℕ → Type 0 = λ z. z < root_span (shapes (arch t)) in subst P e l
      ]

  pub maps_below : (m : Mapping) → IsIn m maps → m.at < root_span (shapes (arch t))
  maps_below m i =
      let a = from_maps m i in
      subst (λ z. z < root_span (shapes (arch t))) (ap (λ (z : Mapping). z.at) a.is)
      (page_below a.shown (in_place a.shown (mapped_pages (system t) d) a.number a.here))

  -- ---- some page is mapped: the buffer of the first thread

  buffer_there : slice_get (regions (system t) d) 1 ≡ Some (region Buffer 1)
  buffer_there =
      let leaves : leaves_of t.flat d ≡ x.leaves = ap (λ o. option_map_or (λ (z : Domain). z.leaves) o []) h in
      let y = some_thread t x.leaves (can.grouped.some d x h) in
      let threads : threads_of (system t) d ≡ y.0 ∷ y.1 = ap (λ z. domain_threads t.flat (ends (system t)) z) leaves ∙ y.2 in
      ap (λ z. slice_get (regions_in t.flat t.settled z (windows_of (system t) d)) 1) threads

  pub some_map : (m : Mapping) × IsIn m maps
  some_map =
      let p : IsRegionPage t d 1 (begins t d 1 + 4096 * 0) 0 (region Buffer 1) = record {
        here = buffer_there;
        within = omega arith;
        at = refl;
      } in
      let q = region_page t.settled Buffer (begins t d 1 + 4096 * 0) 0 in
      let i = place_of q (mapped_pages (system t) d) (region_in t can.settled d 1 (begins t d 1 + 4096 * 0) 0 (region Buffer 1)
      Buffer p refl) in
      (mapping i.0 q, in_maps i.0 q i.1)

  -- ---- what is found

  abbrev pub page_cap : ℕ → MappedPage → Cap
  page_cap n p = record {
    object = frames_from t + number_shown (system t) d n p.shown;
    rights = memory_rights p.read p.write;
    badge = 0;
  }

  pub record Found (v : ℕ) (cap : Cap) : Type 0 where
    pub number : ℕ
    pub shown : MappedPage
    pub here : slice_get (mapped_pages (system t) d) number ≡ Some shown
    pub same : shown.at / 4096 ≡ v / 4096
    pub is : cap ≡ page_cap number shown

  walk : (v : ℕ) (cap : Cap) → v < root_span (shapes (arch t)) → IsAt (spec_of t) (root_of t d) v cap
      ↔ ((m : Mapping) × IsIn m maps × ((m.at / 4096) ≡ (v / 4096)) × (cap ≡ m.cap))
  walk v cap l =
      let y = some_map in
      let P : List Object → Type 0 = λ T. Walk (root_of t d) T (shapes (arch t)) v cap
      ↔ ((m : Mapping) × IsIn m maps × ((m.at / 4096) ≡ (v / 4096)) × (cap ≡ m.cap)) in
      subst P (sym (from_root t d x h)) (found_before (arch t) (root_of t d) maps
      (drop (length (tables_of_domain t d)) (objects_from (spec_of t) (root_of t d))) y.0 v cap y.1 maps_below l)

  pub found : (v : ℕ) (cap : Cap) → v < root_span (shapes (arch t)) → IsAt (spec_of t) (root_of t d) v cap → Found v cap
  found v cap l i = search (rules, walk, from_maps)

  pub finds : (v : ℕ) (cap : Cap) → v < root_span (shapes (arch t)) → Found v cap → IsAt (spec_of t) (root_of t d) v cap
  finds v cap l f = (walk v cap l).1 (mapping f.number f.shown, in_maps f.number f.shown f.here, f.same, f.is)

  -- an address that is on a mapped page is below what the root spans
  pub within : (v n : ℕ) (p : MappedPage) → slice_get (mapped_pages (system t) d) n ≡ Some p → p.at / 4096 ≡ v / 4096
      → v < root_span (shapes (arch t))
  within v n p e same =
      let i = in_place p (mapped_pages (system t) d) n e in
      last (arch t) p.at v (rise.aligned p i) same (page_below p i) where
        last : (a : Arch) (at v : ℕ) → at % 4096 ≡ 0 → at / 4096 ≡ v / 4096 → at < root_span (shapes a) → v < root_span (shapes a)
        last Arm11 at v a s l = omega (arith, a, s, l)
        last Aarch64 at v a s l = omega (arith, a, s, l)
