-- Pages lie below what the root spans, and where there is a thread there is a page.
use Rattle.spec_laws.proofs.Common.{CanLay, Given, IsIn, Page, SectionsStand, Some, Space, ThreadPlace, [], arith, at_place, base, below, few_at, few_regions, flat_map, from_ones, gather, get_ones, in_place, leaves_of, length}
use Rattle.spec_laws.proofs.Common.{length-region_part, length_append, length_threads, map, mapped_pages, option_map_or, page, page_counts, place_of, region_part, regions, rising, root_span, root_spans, section_part, shapes, slice_get, spaces_of}
use Rattle.spec_laws.proofs.Common.{subst, sum, thread_place, thread_regions, threads_of, window_region, windows_of, ℕ, ◌%◌, ◌<◌, ◌∷◌, ◌≡◌, ◌≤◌}
use Rattle.vspace_layout.specs.declared.thread.ThreadOf.{ThreadOf}
use Rattle.vspace_layout.specs.Given.{arch}
use Rattle.vspace_layout.proofs.Low.{page_low}
use Rattle.spec_laws.proofs.SpaceBounds.{space_cases}

module _ (g : Given) (stand : (d : ℕ) → SectionsStand g d) where
  -- a page of a space: at a whole page, and below what the root spans
  pub record IsPlacedPage (p : Page) : Type 0 where
    pub aligned : p.vaddr % 4096 ≡ 0
    pub below : p.vaddr < root_span (shapes (arch g))

  pub pages_placed : CanLay g → sum (page_counts g) ≤ 65536 → (d : ℕ) (p : Page)
      → IsIn p (option_map_or (λ (s : Space). s.pages) (slice_get (spaces_of g).spaces d) []) → IsPlacedPage p
  pages_placed can few d p i =
      space_cases g (λ o. IsIn p (option_map_or (λ (s : Space). s.pages) o []) → IsPlacedPage p) d (λ j. absurd j)
      (λ x e j.
      let n = place_of p (gather (λ n q. page g d n q ∷ []) (mapped_pages g d)) j in
      let q = from_ones (page g d) (mapped_pages g d) n.0 p n.1 in
      let there = in_place q.0 (mapped_pages g d) n.0 q.1 in
      subst IsPlacedPage q.2 (record {
        aligned = (rising g d (stand d)).aligned q.0 there;
        below = root_spans (arch g) q.0.at (page_low g d (stand d) (few_at g can few d x e) q.0 there);
      }))
      i

-- ---- threads have pages

some_page : (g : Given) → CanLay g → (d i : ℕ) (x : ThreadOf) → slice_get (threads_of g d) i ≡ Some x
    → 0 < length (mapped_pages g d)
some_page g can d i x at =
    let a = below (threads_of g d) i x at in
    let c = length_append (flat_map (thread_regions g.settled) (threads_of g d))
    (map (window_region g.flat g.settled) (windows_of g d)) in
    let d1 = few_regions g.flat g.settled (threads_of g d) (windows_of g d) (can.windows d) in
    let e = length_append (section_part g.images (leaves_of g.flat d)) (region_part g.settled (base g) (regions g d)) in
    omega (arith, a, length_threads g.settled (threads_of g d), c, d1, e, length-region_part g.settled (base g) (regions g d))

pub threads_mapped : (g : Given) → CanLay g → (d : ℕ) (x : ThreadPlace)
    → IsIn x (option_map_or (λ (s : Space). s.threads) (slice_get (spaces_of g).spaces d) [])
    → (p : Page) × IsIn p (option_map_or (λ (s : Space). s.pages) (slice_get (spaces_of g).spaces d) [])
threads_mapped g can d x i =
    space_cases g (λ o. IsIn x (option_map_or (λ (s : Space). s.threads) o [])
    → (p : Page) × IsIn p (option_map_or (λ (s : Space). s.pages) o [])) d (λ j. absurd j)
    (λ y e j.
    let n = place_of x (gather (λ n q. thread_place g d n q ∷ []) (threads_of g d)) j in
    let q = from_ones (thread_place g d) (threads_of g d) n.0 x n.1 in
    let m = at_place (mapped_pages g d) 0 (some_page g can d n.0 q.0 q.1) in (
      page g d 0 m.0,
      in_place (page g d 0 m.0) (gather (λ n p. page g d n p ∷ []) (mapped_pages g d)) 0
          (get_ones (page g d) (mapped_pages g d) 0 m.0 m.1),
    ))
    i
