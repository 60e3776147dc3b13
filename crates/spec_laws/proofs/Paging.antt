-- What is mapped in the space of a domain is what the source and its images say
use Rattle.spec_laws.proofs.Common.{AreSettled, Bool, Buffer, Content, Domain, EndAt, EndSetting, Fill, IsIn, IsRegionPage, IsSectionPage, List, MappedPage, MapsPage, Option, Placed, Region, Section, SectionPage, Some, Stack, Tables, Window, [], ap}
use Rattle.spec_laws.proofs.Common.{base, begins, below_count, by_address, eq-eqb, false, fill_of, from_flat_map, from_gather, from_map, image_number, in_any, in_append, in_flat_map, in_gather, in_left, in_map, in_place, in_right, inl, inr, is_run}
use Rattle.spec_laws.proofs.Common.{leaves_of, map, mapped_pages, may_read, may_write, nat_eq, option_map_or, page_at, page_count, page_of, pages_of, pages_of_region, place_of, placed, range_with_len, refl, region_page, region_part, regions}
use Rattle.spec_laws.proofs.Common.{rules, section_page, section_pages, section_part, sections_if, sections_of, setting_of, slice_get, subst, sym, system, thread_regions, threads_of, true, window_region, windows_of, ℕ, ◌*◌, ◌+◌, ◌∙◌, ◌∷◌, ◌≡◌, arith}
use Rattle.std.proofs.lemmas.List.Sorted.{IsPermutation-sym}
use Rattle.source_images.specs.ByAddress.{name_of}
use Rattle.source_images.specs.Images.{runs}
use Rattle.source_images.proofs.Apart.{run_by}
use Rattle.source_images.proofs.InOrder.{name_is, order_moves}
use Rattle.source_images.proofs.SectionsTold.{comes_from}
use Rattle.source_images.proofs.Sorting.{in_permutation}
use Rattle.spec_laws.proofs.Members.{in_range}
use Rattle.spec_laws.proofs.Windows.{seen}

-- ---- a domain that has leaves is there

pub has_domain : (t : Tables) (d : ℕ) → (leaves_of t.flat d ≡ [] → ⊥) → (x : Domain) × (slice_get t.flat.domains d ≡ Some x)
has_domain t d some = grind (arith)

-- the region of a window
pub window_of : (t : Tables) (d : ℕ) (r : Region) (e : EndAt) → IsIn r (regions (system t) d) → r.content ≡ Window e
    → IsIn e (windows_of (system t) d) × (window_region t.flat t.settled e ≡ r)
window_of t d r e i c = elim (in_append r _ (map (window_region t.flat t.settled) (windows_of (system t) d)) i) [
  | inl j ↦
      elim (from_flat_map (thread_regions t.settled) r (threads_of (system t) d) j).2 [
        | inl s ↦ let f : Stack ≡ Window e = ap (λ (z : Region). z.content) s ∙ c in cc
        | inr h ↦ search (rules)
      ]
  | inr j ↦
      let a = from_map (window_region t.flat t.settled) r (windows_of (system t) d) j in
      let f : Window a.0 ≡ Window e = ap (λ (z : Region). z.content) a.2 ∙ c in
      let same : a.0 ≡ e = cc in
      subst (λ z. IsIn z (windows_of (system t) d) × (window_region t.flat t.settled z ≡ r)) same (a.1, a.2)
]

module _ (t : Tables) (set : AreSettled t) where
  -- ---- pages of sections

  pub section_is : (d : ℕ) (q : SectionPage) → IsIn q (section_pages t.images (leaves_of t.flat d))
      → IsSectionPage t d q.vaddr q.write q.fill
  section_is d q i =
      let all = sections_of t.images (leaves_of t.flat d) in
      let x = from_flat_map (pages_of t.images) q (by_address all) i in
      let there = in_permutation all (by_address all) x.0 (order_moves all) x.1 in
      let c = comes_from t.images (leaves_of t.flat d) x.0 there in
      let r = run_by t.images (leaves_of t.flat d) x.0 there in
      let m = from_map (page_at (name_of t.images x.0.image) x.0.section) q (range_with_len 0 (page_count x.0.section)) x.2 in
      search (rules, in_place, below_count, name_is)

  is_run_by : (d m leaf : ℕ) → IsIn leaf (leaves_of t.flat d) → image_number t.images leaf ≡ Some m
      → is_run t.images (leaves_of t.flat d) m ≡ true
  is_run_by d m leaf i e = in_any (runs t.images m) (leaves_of t.flat d) leaf i (ap (λ o. option_map_or (λ k. nat_eq k m) o false)
      e ∙ eq-eqb m m refl)

  pub section_there : (d v : ℕ) (write : Bool) (fill : Option Fill) → IsSectionPage t d v write fill
      → (q : SectionPage) × IsIn q (section_pages t.images (leaves_of t.flat d)) × (q.vaddr ≡ v) × (q.write ≡ write)
      × (q.fill ≡ fill)
  section_there d v write fill s =
      let leaves = leaves_of t.flat d in let all = sections_of t.images leaves in
      let m = s.runs.number in let n = place_of s.section s.image.sections s.has in
      let x = placed m n.0 s.section in
      let f : ℕ → Section → List Placed = λ k z. placed m k z ∷ [] in
      let P : Bool → Type 0 = λ b. IsIn x (sections_if b m s.image) in
      let mine = subst P (sym (is_run_by d m s.leaf s.inside s.runs.numbered)) (in_gather f x s.image.sections n.0 s.section n.1
      (inl refl)) in
      let there = in_gather (λ k z. sections_if (is_run t.images leaves k) k z) x t.images.images m s.image s.runs.listed mine in
      let sorted = in_permutation (by_address all) all x (IsPermutation-sym all (by_address all) (order_moves all)) there in
      let q = page_at (name_of t.images m) s.section s.page in
      let page = in_map (page_at (name_of t.images m) s.section) s.page (range_with_len 0 (page_count s.section))
      (in_range (page_count s.section) s.page s.within) in (
        q,
        in_flat_map (pages_of t.images) x q (by_address all) sorted page,
        sym s.at,
        sym s.may_write,
        ap (λ z. fill_of z s.section s.page) (sym (name_is t.images m s.image s.runs.listed)) ∙ sym s.filled,
      )

  -- ---- pages of regions

  pub region_in : (d n v j : ℕ) (r : Region) (c : Content) → IsRegionPage t d n v j r → r.content ≡ c
      → IsIn (region_page t.settled c (begins t d n + 4096 * j) j) (mapped_pages (system t) d)
  region_in d n v j r c p e =
      let s = system t in
      let f : ℕ → MappedPage = page_of t.settled (begins t d n) r in
      let i = in_map f j (range_with_len 0 r.pages) (in_range r.pages j p.within) in
      let g = in_gather (pages_of_region t.settled (base s) (regions s d)) (f j) (regions s d) n r p.here i in
      let P : Content → Type 0 = λ z. IsIn (region_page t.settled z (begins t d n + 4096 * j) j) (mapped_pages s d) in
      subst P e (in_right (f j) (section_part t.images (leaves_of t.flat d)) (region_part t.settled (base s) (regions s d)) g)

  pub window_set : (d : ℕ) (e : EndAt) → IsIn e (windows_of (system t) d)
      → (s : EndSetting) × (setting_of t.settled e.connection e.end ≡ Some s)
  window_set d e i = let w = seen (system t) d e i in set.end e.connection e.end w.connection w.end w.there w.joined

  abbrev Maps : ℕ → MappedPage → Type 0
  Maps d z = MapsPage t d z.at z.read z.write

  by_content : (d n j : ℕ) (r : Region) (c : Content) → r.content ≡ c → IsRegionPage t d n (begins t d n + 4096 * j) j r
      → Maps d (region_page t.settled c (begins t d n + 4096 * j) j)
  by_content d n j r Stack e p = MapsPage.of_stack n j r e refl refl p
  by_content d n j r Buffer e p = MapsPage.of_buffer n j r e refl refl p
  by_content d n j r (Window w) e p =
      let s = window_set d w (window_of t d r w (in_place r (regions (system t) d) n p.here) e).0 in
      MapsPage.of_window n j r w s.0 e s.1 (ap may_read s.1) (ap may_write s.1) p

  pub mapped_is : (d : ℕ) (p : MappedPage) → IsIn p (mapped_pages (system t) d) → MapsPage t d p.at p.read p.write
  mapped_is d p i =
      let s = system t in
      elim (in_append p (section_part t.images (leaves_of t.flat d)) (region_part t.settled (base s) (regions s d)) i) [
        | inl j ↦
            let q = from_map section_page p (section_pages t.images (leaves_of t.flat d)) j in
            subst (Maps d) q.2 (MapsPage.of_section q.0.fill refl (section_is d q.0 q.1))
        | inr j ↦
            let a = from_gather (pages_of_region t.settled (base s) (regions s d)) p (regions s d) j in
            let b = from_map (page_of t.settled (begins t d a.0) a.1) p (range_with_len 0 a.1.pages) a.3 in
            subst (Maps d) b.2 (by_content d a.0 b.0 a.1 a.1.content refl
            (record { here = a.2; within = below_count a.1.pages b.0 b.1; at = refl }))
      ]

  pub record Mapped (d v : ℕ) (read write : Bool) : Type 0 where
    pub page : MappedPage
    pub there : IsIn page (mapped_pages (system t) d)
    pub at : page.at ≡ v
    pub may_read : page.read ≡ read
    pub may_write : page.write ≡ write

  pub is_mapped : (d v : ℕ) (read write : Bool) → MapsPage t d v read write → Mapped d v read write
  is_mapped d v read write (MapsPage.of_section fill r s) =
      let q = section_there d v write fill s in
      record {
        page = section_page q.0;
        there = in_left (section_page q.0) (section_part t.images (leaves_of t.flat d)) _
            (in_map section_page q.0 (section_pages t.images (leaves_of t.flat d)) q.1);
        at = q.2;
        may_read = sym r;
        may_write = q.3;
      }
  is_mapped d v read write (MapsPage.of_stack n j r c e f p) =
      record {
        page = region_page t.settled Stack (begins t d n + 4096 * j) j;
        there = region_in d n v j r Stack p c;
        at = sym p.at;
        may_read = sym e;
        may_write = sym f;
      }
  is_mapped d v read write (MapsPage.of_buffer n j r c e f p) =
      record {
        page = region_page t.settled Buffer (begins t d n + 4096 * j) j;
        there = region_in d n v j r Buffer p c;
        at = sym p.at;
        may_read = sym e;
        may_write = sym f;
      }
  is_mapped d v read write (MapsPage.of_window n j r w s c k e f p) =
      record {
        page = region_page t.settled (Window w) (begins t d n + 4096 * j) j;
        there = region_in d n v j r (Window w) p c;
        at = sym p.at;
        may_read = ap may_read k ∙ sym e;
        may_write = ap may_write k ∙ sym f;
      }
