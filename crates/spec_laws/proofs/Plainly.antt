-- What is laid out plainly can be written.
use Rattle.spec_laws.proofs.Common.{Bool, CanLay, Content, Domain, Fill, Flat, FrameInfo, Given, Image, Images, IsFillWritten, IsFrameWritten, IsIn, IsPlain, IsThreadWritten, IsTrue, IsWritten, List, MappedPage}
use Rattle.spec_laws.proofs.Common.{Memory, None, Option, Own, Placed, Section, SectionPage, Settled, Shown, Some, Source, Space, Tables, ThreadPlace, Window, [], and_parts, arch_of, arith, base, below_count, by_address}
use Rattle.spec_laws.proofs.Common.{div-mul-le_self, entry_in, false, few_at, fill_of, frame, frames, from_flat_map, from_gather, from_map, from_ones, gather, given}
use Rattle.spec_laws.proofs.Common.{image_number, in_append, in_place, inl, inr, is_name, is_run, leaf_name, leaves_of, length_regions, ltb-true, mapped_pages, option_map_or}
use Rattle.spec_laws.proofs.Common.{own_frame, own_frames, own_part, page_at, page_count, page_counts, page_of, pages_of, pages_of_region, pages_upto, placed, range_with_len, refl, region_page, region_part, region_start, regions}
use Rattle.spec_laws.proofs.Common.{register_part, same_Some, section_page, section_pages, section_part, sections_if, sections_of, shared_part, slice_get, slice_get_within, space, start_same, subst, sum}
use Rattle.spec_laws.proofs.Common.{rules, sym, tables_from, thread_place, threads_at, threads_of, true, windows_of, ℕ, ◌*◌, ◌+◌, ◌<◌, ◌^◌, ◌∙◌, ◌∷◌, ◌≡◌, ◌≤◌}
use Rattle.source_images.specs.ByAddress.{name_of}
use Rattle.sect_table.specs.Sections.{is_sound}
use Rattle.vspace_layout.proofs.Starting.{low_base, stacks_fit}
use Rattle.vspace_layout.specs.declared.owner.Owner.TheVariants.{OfDomain}
use Rattle.vspace_layout.specs.declared.thread.ThreadOf.{ThreadOf}
use Rattle.spec_laws.proofs.Lists.{from_if}
use Rattle.source_images.proofs.InOrder.{order_moves}
use Rattle.source_images.proofs.Sorting.{in_permutation}

-- ---- fills

abbrev FillFine : Option Fill → Type 0
FillFine fill = (f : Fill) → fill ≡ Some f → IsFillWritten f

abbrev ShownFine : Shown → Type 0
ShownFine (Own fill) = FillFine fill
ShownFine (Memory k j) = Unit {0}

-- page j of a section has a byte
byte_there : (s : Section) (j : ℕ) → j < page_count s → 4096 * j < s.size
byte_there s j l = let a = div-mul-le_self (s.size + 4095) 4096 in omega (arith, a, l)

section_fine : (file : List ℕ) (s : Section) (j : ℕ) → is_name file ≡ true → IsTrue (is_sound s) → j < page_count s
    → FillFine (fill_of file s j)
section_fine file s j named sound l f e = search (rules, and_parts, ltb-true, byte_there, same_Some)

module _ (g : Given) (plain : IsPlain g) where
  placed_fine : (leaves : List ℕ) (x : Placed) → IsIn x (sections_of g.images leaves)
      → (is_name (name_of g.images x.image) ≡ true) × IsTrue (is_sound x.section)
  placed_fine leaves x i =
      let f : ℕ → Image → List Placed = λ m image. sections_if (is_run g.images leaves m) m image in
      let m = from_gather f x g.images.images i in
      by_test (is_run g.images leaves m.0) m.0 m.1 m.2 m.3 where
        by_test : (b : Bool) (m : ℕ) (image : Image) → slice_get g.images.images m ≡ Some image → IsIn x (sections_if b m image)
            → (is_name (name_of g.images x.image) ≡ true) × IsTrue (is_sound x.section)
        by_test false m image h i = absurd i
        by_test true m image h i =
            let p = plain.images m image h in
            let f : ℕ → Section → List Placed = λ n section. placed m n section ∷ [] in
            let n = from_gather f x image.sections i in
            let named : is_name (name_of g.images m) ≡ true = search (rules) in
            search (rules, in_place)

  section_pages_fine : (leaves : List ℕ) (q : SectionPage) → IsIn q (section_pages g.images leaves) → FillFine q.fill
  section_pages_fine leaves q i =
      let x = from_flat_map (pages_of g.images) q (by_address (sections_of g.images leaves)) i in
      let all = sections_of g.images leaves in
      let p = placed_fine leaves x.0 (in_permutation all (by_address all) x.0 (order_moves all) x.1) in
      let j = from_map (page_at (name_of g.images x.0.image) x.0.section) q (range_with_len 0 (page_count x.0.section)) x.2 in
      subst (λ (z : SectionPage). FillFine z.fill) {x = page_at (name_of g.images x.0.image) x.0.section j.0} j.2
      (section_fine (name_of g.images x.0.image) x.0.section j.0 p.0 p.1 (below_count (page_count x.0.section) j.0 j.1))

  content_fine : (settled : Settled) (c : Content) (at j : ℕ) → ShownFine (region_page settled c at j).shown
  content_fine settled (Window w) at j = tt
  content_fine settled _ at j = λ f e. absurd cc

  page_fine : (d : ℕ) (p : MappedPage) → IsIn p (mapped_pages g d) → ShownFine p.shown
  page_fine d p i =
      elim (in_append p (section_part g.images (leaves_of g.flat d)) (region_part g.settled (base g) (regions g d)) i) [
        | inl j ↦
            let q = from_map section_page p (section_pages g.images (leaves_of g.flat d)) j in
            subst (λ (z : MappedPage). ShownFine z.shown) {x = section_page q.0} q.2
            (section_pages_fine (leaves_of g.flat d) q.0 q.1)
        | inr j ↦
            let n = from_gather (pages_of_region g.settled (base g) (regions g d)) p (regions g d) j in
            let start = region_start (base g) (regions g d) n.0 in
            let k = from_map (page_of g.settled start n.1) p (range_with_len 0 n.1.pages) n.3 in
            subst (λ (z : MappedPage). ShownFine z.shown) {x = page_of g.settled start n.1 k.0} k.2
            (content_fine g.settled n.1.content (start + 4096 * k.0) k.0)
      ]

  -- ---- frames

  own_written : (d : ℕ) (s : Shown) (f : FrameInfo) → ShownFine s → IsIn f (own_frame d s) → IsFrameWritten f
  own_written d (Own fill) f h (inl e) = subst IsFrameWritten {x = frame (OfDomain d) None fill} e
      (record { paddr = λ at n. absurd cc; fill = h })
  own_written d (Own fill) f h (inr i) = absurd i
  own_written d (Memory k j) f h i = absurd i

  own_part_written : (f : FrameInfo) → IsIn f (own_part g) → IsFrameWritten f
  own_part_written f i =
      let d = from_gather (own_frames g) f g.flat.domains i in
      let n = from_gather (λ n (p : MappedPage). own_frame d.0 p.shown) f (mapped_pages g d.0) d.3 in
      own_written d.0 n.1.shown f (page_fine d.0 n.1 (in_place n.1 (mapped_pages g d.0) n.0 n.2)) n.3

  shared_written : (f : FrameInfo) → IsIn f (shared_part g.flat g.settled) → IsFrameWritten f
  shared_written f i = search (rules, from_gather, from_if, from_map)

  module _ (can : CanLay g) where
    register_written : (f : FrameInfo) → IsIn f (register_part g.flat g.settled) → IsFrameWritten f
    register_written f i = search (rules, from_gather, from_map, from_if, below_count, same_Some)

    pub frame_written : (f : FrameInfo) → IsIn f (frames g) → IsFrameWritten f
    frame_written f i = search (rules, in_append, own_part_written, shared_written, register_written)

    -- ---- threads

    entry_few : (m : Option ℕ) → entry_in g.images m < 2 ^ 64
    entry_few None = omega arith
    entry_few (Some m) = by_image (slice_get g.images.images m) refl where
      by_image : (o : Option Image) → slice_get g.images.images m ≡ o → option_map_or (λ (z : Image). z.entry) o 0 < 2 ^ 64
      by_image None e = omega arith
      by_image (Some image) e = (plain.images m image e).entry

    module _ (pages : sum (page_counts g) ≤ 65536) (d : ℕ) (x : Domain) (here : slice_get g.flat.domains d ≡ Some x) where
      stack_few : (i : ℕ) (y : ThreadOf) → slice_get (threads_of g d) i ≡ Some y → (thread_place g d i y).sp < 2 ^ 64
      stack_few i y e =
          let many = length_regions g.flat g.settled (threads_of g d) (windows_of g d) in
          omega (
            arith,
            start_same (base g) (regions g d) (2 * i) (omega (arith, slice_get_within (threads_of g d) i y e, many)),
            stacks_fit g.flat g.settled (base g)
                (threads_of g d) (windows_of g d) (low_base (arch_of g.images.images)) (few_at g can pages d x here) i y e,
          )

      buffer_few : (i : ℕ) (y : ThreadOf) → slice_get (threads_of g d) i ≡ Some y → (thread_place g d i y).buffer < 2 ^ 64
      buffer_few i y e = grind (arith, few_at, slice_get_within, length_regions, pages_upto, low_base)

module _ (source : Source) (flat : Flat) (settled : Settled) (images : Images) where
  abbrev g : Given
  g = given source flat settled images

  abbrev t : Tables
  t = tables_from source flat settled images

  module _ (plain : IsPlain g) (can : CanLay g) (pages : sum (page_counts g) ≤ 65536) where
    thread_written : (d : ℕ) (y : ThreadPlace) → IsIn y (threads_at t d) → IsThreadWritten t y
    thread_written d y i = by_space (slice_get t.spaces.spaces d) refl i where
      of_thread : (x : Domain) → slice_get flat.domains d ≡ Some x
          → IsIn y (gather (λ n z. thread_place g d n z ∷ []) (threads_of g d)) → IsThreadWritten t y
      of_thread x here i =
          let f : ℕ → ThreadOf → List ThreadPlace = λ n z. thread_place g d n z ∷ [] in
          let n = from_gather f y (threads_of g d) i in
          let p = plain.programs d n.1 (in_place n.1 (threads_of g d) n.0 n.2) in
          let named : is_name (leaf_name t n.1.leaf) ≡ true = search (rules) in
          let made : IsThreadWritten t (thread_place g d n.0 n.1) = record {
            buffer = buffer_few g plain can pages d x here n.0 n.1 n.2;
            stack = stack_few g plain can pages d x here n.0 n.1 n.2;
            entry = entry_few g plain can (image_number images n.1.leaf);
            name = named;
          } in
          elim n.3 [ inl e ↦ subst (IsThreadWritten t) e made | inr none ↦ absurd none ]

      by_space : (o : Option Space) → slice_get t.spaces.spaces d ≡ o → IsIn y (option_map_or (λ (s : Space). s.threads) o [])
          → IsThreadWritten t y
      by_space None e i = absurd i
      by_space (Some s) e i =
          let o = from_ones (space g) flat.domains d s e in
          of_thread o.0 o.1 (subst (λ (z : Space). IsIn y z.threads) (sym o.2) i)

    pub tables_written : IsWritten t
    tables_written = search (rules, thread_written, frame_written)
