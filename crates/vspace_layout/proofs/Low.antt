-- Addresses are low: what is mapped, and what regions end at.
use Rattle.vspace_layout.proofs.Common.{Aarch64, AddressesAreLow, Arch, Arm11, CanLay, Domain, Given, IsIn, List, MappedPage, Region, SectionPage, SectionsStand, Some, address_limit, ap, arch, arith, base, below, from_gather, from_map, from_range}
use Rattle.vspace_layout.proofs.Common.{in_append, leaves_of, length, map, mapped_pages, page_counts, page_of, pages_in, pages_of_region, range_with_len, region_part, region_start, regions, section_page, section_pages, section_part, sections_end}
use Rattle.vspace_layout.proofs.Common.{slice_get, subst, sum, sym, ℕ, ⊎_elim, ◌*◌, ◌+◌, ◌<◌, ◌∙◌, ◌≡◌, ◌≤◌}
use Rattle.vspace_layout.proofs.Few.{few_at}
use Rattle.vspace_layout.proofs.Fitting.{pages_next, pages_upto}
use Rattle.vspace_layout.proofs.Rising.{each_all, each_in, region_at}

-- the end of a region, where all regions have few pages
end_low : (base : ℕ) (rs : List Region) (n : ℕ) (r : Region) → length rs + pages_in rs ≤ 262144 → slice_get rs n ≡ Some r
    → region_start base rs n + 4096 * r.pages ≤ base + 1073741824
end_low base rs n r few at = grind (arith, pages_next, pages_upto, below)

module _ (g : Given) (d : ℕ) (stand : SectionsStand g d) where
  section_low : (x : SectionPage) → IsIn x (section_pages g.images (leaves_of g.flat d)) → x.vaddr < base g + 1073741824
  section_low x i =
      let l = each_in (λ (p : SectionPage). p.vaddr + 4096 ≤ base g) (section_pages g.images (leaves_of g.flat d)) x
      (each_all (λ (p : SectionPage). p.vaddr + 4096 ≤ base g) (section_pages g.images (leaves_of g.flat d)) stand.below) i in
      omega (arith, l)

  pub page_low : length (regions g d) + pages_in (regions g d) ≤ 262144 → (p : MappedPage) → IsIn p (mapped_pages g d)
      → p.at < base g + 1073741824
  page_low few p i =
      ⊎_elim
      (λ j.
      let s : (x : SectionPage) × IsIn x (section_pages g.images (leaves_of g.flat d)) × (section_page x ≡ p) =
      from_map section_page p (section_pages g.images (leaves_of g.flat d)) j in
      subst (λ (z : MappedPage). z.at < base g + 1073741824) s.2 (section_low s.0 s.1))
      (λ j.
      let k : (k : ℕ) × (r : Region) × (slice_get (regions g d) k ≡ Some r)
      × IsIn p (pages_of_region g.settled (base g) (regions g d) k r) =
      from_gather (pages_of_region g.settled (base g) (regions g d)) p (regions g d) j in
      by_page k.0 k.1 k.2 k.3)
      (in_append p (section_part g.images (leaves_of g.flat d)) (region_part g.settled (base g) (regions g d)) i)
    where
      by_page : (n : ℕ) (r : Region) → slice_get (regions g d) n ≡ Some r
          → IsIn p (map (page_of g.settled (region_start (base g) (regions g d) n) r) (range_with_len 0 r.pages))
          → p.at < base g + 1073741824
      by_page n r at i =
          let from = region_start (base g) (regions g d) n in
          let m : (j : ℕ) × IsIn j (range_with_len 0 r.pages) × (page_of g.settled from r j ≡ p) =
          from_map (page_of g.settled from r) p (range_with_len 0 r.pages) i in
          let l = from_range 0 r.pages m.0 m.1 in
          let low = end_low (base g) (regions g d) n r few at in
          let here : p.at ≡ from + 4096 * m.0 = ap (λ (z : MappedPage). z.at) (sym m.2) ∙ region_at g.settled r.content
          (from + 4096 * m.0) m.0 in
          omega (arith, l, low, here)

-- what ends within 2^30 above the sections
under : (a : Arch) (at : ℕ) → at ≤ sections_end a + 1073741824 → at < address_limit a
under Arm11 at l = omega (arith, l)
under Aarch64 at l = omega (arith, l)

pub addresses_low : (t : Given) → CanLay t → sum (page_counts t) ≤ 65536 → (d : ℕ) (x : Domain)
    → slice_get t.flat.domains d ≡ Some x → SectionsStand t d → AddressesAreLow t d
addresses_low t can few d x e stand = record {
  pages = λ p i. under (arch t) p.at (let l = page_low t d stand (few_at t can few d x e) p i in omega (arith, l));
  ends = λ n r at. under (arch t) (region_start (base t) (regions t d) n + 4096 * r.pages)
      (end_low (base t) (regions t d) n r (few_at t can few d x e) at);
}
