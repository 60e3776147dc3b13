-- Each frame has the address of a page or none, and fills a part of it or nothing.
use Rattle.spec_laws.proofs.Common.{Content, FlatConnection, FrameInfo, Given, IsIn, List, MappedPage, Memory, None, Option, Own, Region, Section, SectionPage, Settled, Shown, Some, Window, [], and_from, arith, base}
use Rattle.spec_laws.proofs.Common.{device_frames, eq-eqb, fill_from, fill_of, frames, from_flat_map, from_gather, from_map, from_range, in_append, in_place, inl, inr, keeps_fill, keeps_frame, le-leb, leaves_of, lt-ltb, map}
use Rattle.spec_laws.proofs.Common.{mapped_pages, memory_paddr, memory_part, own_frame, own_frames, own_part, page_count, page_of, pages_of_region, range_with_len, refl, region_page}
use Rattle.spec_laws.proofs.Common.{region_part, regions, register_frames, register_part, rules, section_page, section_pages, section_part, shared_frames, shared_part, slice_get, subst, true, ℕ, ⊎_elim, ◌%◌, ◌*◌, ◌+◌, ◌-◌, ◌<◌, ◌≡◌}
use Rattle.spec_laws.proofs.Lists.{from_if}

abbrev Keeps : FrameInfo → Type 0
Keeps f = keeps_frame f.paddr f.fill ≡ true

-- ---- own frames

fill_kept : (file : List ℕ) (s : Section) (j at : ℕ) → j < page_count s → keeps_fill (fill_from file s j at) ≡ true
fill_kept file s j at l = search (rules, and_from, lt-ltb, le-leb)

section_kept : (file : List ℕ) (s : Section) (j : ℕ) → j < page_count s → keeps_frame None (fill_of file s j) ≡ true
section_kept file s j l = search (rules, fill_kept)

-- what a page shows
abbrev IsFilled : Shown → Type 0
IsFilled (Own fill) = keeps_frame None fill ≡ true
IsFilled (Memory k j) = Unit {0}

abbrev PageFilled : MappedPage → Type 0
PageFilled p = IsFilled p.shown

region_filled : (settled : Settled) (c : Content) (at j : ℕ) → PageFilled (region_page settled c at j)
region_filled settled (Window e) at j = tt
region_filled settled _ at j = refl

module _ (g : Given) where
  section_filled : (leaves : List ℕ) (x : SectionPage) → IsIn x (section_pages g.images leaves) → keeps_frame None x.fill ≡ true
  section_filled leaves x i = search (rules, from_flat_map, from_map, from_range, section_kept)

  page_filled : (d : ℕ) (p : MappedPage) → IsIn p (mapped_pages g d) → PageFilled p
  page_filled d p i =
      ⊎_elim (λ j. let s = from_map section_page p (section_pages g.images (leaves_of g.flat d)) j in
      subst PageFilled s.2 (section_filled (leaves_of g.flat d) s.0 s.1)) (λ j. let k = from_gather
      (pages_of_region g.settled (base g) (regions g d)) p (regions g d) j in by_page k.1 _ k.3)
      (in_append p (section_part g.images (leaves_of g.flat d)) (region_part g.settled (base g) (regions g d)) i) where
        by_page : (r : Region) (from : ℕ) → IsIn p (map (page_of g.settled from r) (range_with_len 0 r.pages)) → PageFilled p
        by_page r from i =
            let m = from_map (page_of g.settled from r) p (range_with_len 0 r.pages) i in
            subst PageFilled m.2 (region_filled g.settled r.content (from + 4096 * m.0) m.0)

  own_kept : (f : FrameInfo) → IsIn f (own_part g) → Keeps f
  own_kept f i =
      let a = from_gather (own_frames g) f g.flat.domains i in
      let b = from_gather (λ n (p : MappedPage). own_frame a.0 p.shown) f (mapped_pages g a.0) a.3 in
      by_shown a.0 b.1.shown (page_filled a.0 b.1 (in_place b.1 (mapped_pages g a.0) b.0 b.2)) b.3 where
        by_shown : (d : ℕ) (s : Shown) → IsFilled s → IsIn f (own_frame d s) → Keeps f
        by_shown d (Own fill) k (inl e) = subst Keeps e k
        by_shown d (Own fill) k (inr j) = absurd j
        by_shown d (Memory m j) k i = absurd i

-- ---- memory

shared_kept : (settled : Settled) (k : ℕ) (c : FlatConnection) (f : FrameInfo) → IsIn f (shared_frames settled k c) → Keeps f
shared_kept settled k c f i = search (rules, from_if, from_map)

device_kept : (leaf at count : ℕ) (f : FrameInfo) → at % 4096 ≡ 0 → IsIn f (device_frames leaf at count) → Keeps f
device_kept leaf at count f aligned i = search (rules, from_map, and_from, eq-eqb)

registers_kept : (g : Given) (k : ℕ) (c : FlatConnection) (f : FrameInfo) → memory_paddr g.settled k c % 4096 ≡ 0
    → IsIn f (register_frames g.flat g.settled k c) → Keeps f
registers_kept g k c f aligned i = search (rules, from_if, device_kept)

memory_kept : (g : Given) → ((k : ℕ) (c : FlatConnection) → slice_get g.flat.connections k ≡ Some c
    → memory_paddr g.settled k c % 4096 ≡ 0) → (f : FrameInfo) → IsIn f (memory_part g.flat g.settled) → Keeps f
memory_kept g aligned f i =
    ⊎_elim (λ j. let a = from_gather (shared_frames g.settled) f g.flat.connections j in
    shared_kept g.settled a.0 a.1 f a.3) (λ j. let a = from_gather
    (register_frames g.flat g.settled) f g.flat.connections j in registers_kept g a.0 a.1 f (aligned a.0 a.1 a.2) a.3)
    (in_append f (shared_part g.flat g.settled) (register_part g.flat g.settled) i)

pub frames_kept : (g : Given) → ((k : ℕ) (c : FlatConnection) → slice_get g.flat.connections k ≡ Some c
    → memory_paddr g.settled k c % 4096 ≡ 0) → (f : FrameInfo) → IsIn f (frames g) → keeps_frame f.paddr f.fill ≡ true
frames_kept g aligned f i = ⊎_elim (own_kept g f) (memory_kept g aligned f)
    (in_append f (own_part g) (memory_part g.flat g.settled) i)
