-- Sections stand apart where no fault of sections stands
use Rattle.vspace_layout.proofs.Common.{All, AllPairs, AreApart, AreCounted, AreNumbered, AreSound, Domain, Given, Images, IsIn, List, None, Option, Placed, SectionsStand, Some, [], ap, arch, arith, base, by_address, false, free_apart, free_inside}
use Rattle.vspace_layout.proofs.Common.{from_flat_map, from_map, get_or, in_permutation, in_place, is_inside, leaves_of, name_of, option_map_or, own_all, page_at, page_count, pages_of, range_with_len, refl, section_pages, sections_of, slice_get}
use Rattle.vspace_layout.proofs.Common.{rules, subst, sym, true, ℕ, ◌%◌, ◌*◌, ◌+◌, ◌≡◌, ◌≤◌}
use Rattle.source_images.specs.SpaceFaults.{first_space_fault}
use Rattle.source_images.proofs.Apart.{sound_numbers}
use Rattle.source_images.proofs.InOrder.{order_moves}
use Rattle.source_images.proofs.Rising.{Precedes, pages_inside, pages_rise, pairs_from_later}
use Rattle.source_images.proofs.SectionsTold.{comes_from}

-- pages of sections are whole pages
aligned : (images : Images) (leaves : List ℕ) → AreApart images leaves
    → All (λ p. p.vaddr % 4096 ≡ 0) (section_pages images leaves)
aligned images leaves h k d l =
    let pages = section_pages images leaves in
    let all = sections_of images leaves in
    let x = from_flat_map (pages_of images) (get_or pages k d) (by_address all) (own_all pages k d l) in
    let s = sound_numbers x.0.section (h.sound x.0 (in_permutation all (by_address all) x.0 (order_moves all) x.1)) in
    let p = from_map (page_at (name_of images x.0.image) x.0.section) (get_or pages k d)
    (range_with_len 0 (page_count x.0.section)) x.2 in
    let at : (get_or pages k d).vaddr ≡ x.0.section.vaddr + 4096 * p.0 = ap (λ q. q.vaddr) (sym p.2) in
    omega (arith, at, s.page)

-- without leaves there are no sections
never : false ≡ true → ⊥
never e = cc

none_run : (images : Images) (x : Placed) → IsIn x (sections_of images []) → ⊥
none_run images x i = never (comes_from images [] x i).run

pub none_apart : (images : Images) → AreCounted images → AreApart images []
none_apart images counted = search (rules, none_run)

stands : (t : Given) (d : ℕ) (leaves : List ℕ) → leaves_of t.flat d ≡ leaves → AreApart t.images leaves
    → ((x : Placed) → IsIn x (sections_of t.images leaves) → is_inside (base t) x.section ≡ true) → SectionsStand t d
stands t d leaves same h inside =
    let whole : All (λ p. p.vaddr % 4096 ≡ 0) (section_pages t.images leaves) = aligned t.images leaves h in
    let apart : AllPairs Precedes (section_pages t.images leaves) = pairs_from_later Precedes (section_pages t.images leaves)
    (pages_rise t.images leaves h) in
    let below : All (λ p. p.vaddr + 4096 ≤ base t) (section_pages t.images leaves) =
    λ k e l. (pages_inside t.images leaves h (arch t) inside k e l).1 in
    record {
      aligned = subst (λ z. All (λ p. p.vaddr % 4096 ≡ 0) (section_pages t.images z)) (sym same) whole;
      apart = subst (λ z. AllPairs Precedes (section_pages t.images z)) (sym same) apart;
      below = subst (λ z. All (λ p. p.vaddr + 4096 ≤ base t) (section_pages t.images z)) (sym same) below;
    }

-- the sections of each domain lie apart
pub apart_at : (t : Given) → AreNumbered t.flat t.images → AreSound t.images → first_space_fault t.flat t.images ≡ None → (d : ℕ)
    → AreApart t.images (leaves_of t.flat d)
apart_at t numbered sound none d = by_domain (slice_get t.flat.domains d) refl
  where
    by_domain : (o : Option Domain) → slice_get t.flat.domains d ≡ o → AreApart t.images (leaves_of t.flat d)
    by_domain None e = subst (λ z. AreApart t.images z) (sym (ap (λ (o : Option Domain). option_map_or (λ x. x.leaves) o []) e))
        (none_apart t.images numbered.counted)
    by_domain (Some x) e =
        subst (λ z. AreApart t.images z) (sym (ap (λ (o : Option Domain). option_map_or (λ x. x.leaves) o []) e))
        (free_apart t.flat t.images numbered none x (in_place x t.flat.domains d e) sound)

pub sections_stand : (t : Given) → AreNumbered t.flat t.images → AreSound t.images → first_space_fault t.flat t.images ≡ None
    → (d : ℕ) → SectionsStand t d
sections_stand t numbered sound none d = by_domain (slice_get t.flat.domains d) refl
  where
    by_domain : (o : Option Domain) → slice_get t.flat.domains d ≡ o → SectionsStand t d
    by_domain None e =
        stands t d [] (ap (λ (o : Option Domain). option_map_or (λ x. x.leaves) o []) e) (none_apart t.images numbered.counted)
        (λ x i. absurd (none_run t.images x i))
    by_domain (Some x) e =
        let i = in_place x t.flat.domains d e in
        stands t d x.leaves (ap (λ (o : Option Domain). option_map_or (λ x. x.leaves) o []) e)
        (free_apart t.flat t.images numbered none x i sound) (free_inside t.flat t.images numbered none x i)
