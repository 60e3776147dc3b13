-- The pages of sections that lie apart, by address.
use Rattle.source_images.proofs.Common.{Aarch64, All, AllPairs, Arch, AreApart, Arm11, Images, IsIn, List, Placed, [], and_cases, and_from, and_parts, ap, arith, both_ways, by_address, cases_Bool, clashes_with, eqb-true, false, flat_map}
use Rattle.source_images.proofs.Common.{from_flat_map, from_map, get_or, inl, inr, is_inside, leb, leb-true, ltb-false, nat_eq, nat_lt, not, page_count, pages_of, range_with_len, refl, same_Some, section_pages, sections_end, sections_of, share_page}
use Rattle.source_images.proofs.Common.{rules, slice_get, suc, sym, true, zero, ℕ, ⊎_elim, ◌%◌, ◌&&◌, ◌*◌, ◌+◌, ◌/◌, ◌<◌, ◌∙◌, ◌∷◌, ◌≡◌, ◌≤◌}
use Rattle.source_images.specs.declared.pages.SectionPage.{SectionPage}
use Rattle.source_images.proofs.Apart.{address, addresses_differ, no_clash, same_numbers, sound_numbers}
use Rattle.source_images.proofs.InOrder.{order_climbs, order_moves}
use Rattle.source_images.proofs.SectionsTold.{comes_from}
use Rattle.source_images.proofs.Sorting.{Later, in_permutation, later_append, later_map, later_within, own_all, rises_in_order}

-- ---- lists that are made of others

later_flat : {X Y : Type 0} (R : Y → Y → Type 0) (f : X → List Y) (xs : List X) → ((x : X) → IsIn x xs → Later R (f x))
    → Later (λ x y. (p q : Y) → IsIn p (f x) → IsIn q (f y) → R p q) xs → Later R (flat_map f xs)
later_flat R f [] h k = tt
later_flat R f (x ∷ xs) h k =
    later_append R (f x) (flat_map f xs) (h x (inl refl)) (later_flat R f xs (λ y i. h y (inr i)) k.1)
    (λ p q i j. let s = from_flat_map f q xs j in k.0 s.0 s.1 p q i s.2)

pub pairs_from_later : {X : Type 0} (R : X → X → Type 0) (xs : List X) → Later R xs → AllPairs R xs
pairs_from_later R [] h i j d l k = absurd (omega arith)
pairs_from_later R (x ∷ xs) h zero zero d l k = absurd (omega arith)
pairs_from_later R (x ∷ xs) h zero (suc j) d l k = h.0 (get_or xs j d) (own_all xs j d (omega arith))
pairs_from_later R (x ∷ xs) h (suc i) zero d l k = absurd (omega arith)
pairs_from_later R (x ∷ xs) h (suc i) (suc j) d l k = pairs_from_later R xs h.1 i j d (omega arith) (omega arith)

in_range : (a n j : ℕ) → IsIn j (range_with_len a n) → (a ≤ j) × (j < a + n)
in_range a zero j i = absurd i
in_range a (suc n) j (inl e) = (omega arith, omega arith)
in_range a (suc n) j (inr i) = let k = in_range (a + 1) n j i in (omega (arith, k.0), omega (arith, k.1))

range_later : (a n : ℕ) → Later (λ i j. i < j) (range_with_len a n)
range_later a zero = tt
range_later a (suc n) = ((λ j i. omega (arith, (in_range (a + 1) n j i).0)), range_later (a + 1) n)

-- ---- the pages of a section

-- a page ends where the other begins, or in front of it
abbrev pub Precedes : SectionPage → SectionPage → Type 0
Precedes p q = p.vaddr + 4096 ≤ q.vaddr

from_page : (images : Images) (x : Placed) (p : SectionPage) → IsIn p (pages_of images x) → (j : ℕ) × (j < page_count x.section)
    × (p.vaddr ≡ x.section.vaddr + 4096 * j)
from_page images x p i = grind (arith, from_map, in_range)

pages_later : (images : Images) (x : Placed) → Later Precedes (pages_of images x)
pages_later images x = search (rules, later_map, later_within, range_later)

-- ---- the pages of two sections

apart_pages : (v w n m : ℕ) → v % 4096 ≡ 0 → w % 4096 ≡ 0 → v < w → 0 < m
    → (nat_lt (v / 4096) (w / 4096 + (m + 4095) / 4096) && nat_lt (w / 4096) (v / 4096 + (n + 4095) / 4096)) ≡ false
    → v + 4096 * ((n + 4095) / 4096) ≤ w
apart_pages v w n m a b l k e = grind (arith, ltb-false, and_cases, nat_lt)

one_section : (images : Images) (leaves : List ℕ) (x y : Placed) → IsIn x (sections_of images leaves)
    → IsIn y (sections_of images leaves) → same_numbers x y ≡ true → x.section ≡ y.section
one_section images leaves x y i j e =
    let both = and_parts (nat_eq x.image y.image) (nat_eq x.number y.number) e in
    let image : x.image ≡ y.image = eqb-true x.image y.image both.0 in
    let number : x.number ≡ y.number = eqb-true x.number y.number both.1 in
    let from = comes_from images leaves x i in
    let to = comes_from images leaves y j in
    let same : from.image ≡ to.image = same_Some _ _ (sym from.at ∙ ap (λ m. slice_get images.images m) image ∙ to.at) in
    same_Some _ _ (sym from.section ∙ ap (λ z. slice_get z.sections x.number) same
    ∙ ap (λ n. slice_get to.image.sections n) number ∙ to.section)

module _ (images : Images) (leaves : List ℕ) (h : AreApart images leaves) where
  behind : (x y : Placed) → IsIn x (sections_of images leaves) → IsIn y (sections_of images leaves) → address x < address y
      → address x + 4096 * page_count x.section ≤ address y
  behind x y i j l =
      let s = sound_numbers x.section (h.sound x i) in
      let t = sound_numbers y.section (h.sound y j) in
      let clash = no_clash images leaves x y h i j in
      let two : same_numbers x y ≡ false =
      ⊎_elim (λ e. absurd (omega (arith, l, ap (λ z. z.vaddr) (one_section images leaves x y i j e)))) (λ f. f)
      (cases_Bool (same_numbers x y)) in
      let share : share_page x.section y.section ≡ false =
      ⊎_elim
      (λ e. absurd (both_ways (clashes_with x y) clash (and_from (not (same_numbers x y)) (share_page x.section y.section)
      (ap (λ z. not z) two) e)))
      (λ f. f)
      (cases_Bool (share_page x.section y.section)) in
      apart_pages x.section.vaddr y.section.vaddr x.section.size y.section.size s.page t.page l t.some share

  across : (x y : Placed) (p q : SectionPage) → IsIn x (sections_of images leaves) → IsIn y (sections_of images leaves)
      → address x < address y → IsIn p (pages_of images x) → IsIn q (pages_of images y) → Precedes p q
  across x y p q i j l m n =
      let a = from_page images x p m in
      let b = from_page images y q n in
      omega (arith, a.1, a.2, b.2, behind x y i j l)

  listed : (x : Placed) → IsIn x (by_address (sections_of images leaves)) → IsIn x (sections_of images leaves)
  listed x i = in_permutation (sections_of images leaves) (by_address (sections_of images leaves)) x
      (order_moves (sections_of images leaves)) i

  pub pages_rise : Later Precedes (section_pages images leaves)
  pages_rise =
      let all = sections_of images leaves in
      later_flat Precedes (pages_of images) (by_address all) (λ x i. pages_later images x)
      (later_within (λ x y. address x < address y) (λ x y. (p q : SectionPage) → IsIn p (pages_of images x)
      → IsIn q (pages_of images y) → Precedes p q) (by_address all)
      (λ x y i j l p q m n. across x y p q (listed x i) (listed y j) l m n)
      (rises_in_order address all (by_address all) (addresses_differ images leaves h) (order_moves all) (order_climbs all)))

  -- ---- where pages lie

  last_page : (v n j e : ℕ) → v % 4096 ≡ 0 → e % 4096 ≡ 0 → v + n ≤ e → j < (n + 4095) / 4096 → v + 4096 * j + 4096 ≤ e
  last_page v n j e a b l k = omega arith

  whole : (arch : Arch) → sections_end arch % 4096 ≡ 0
  whole Arm11 = refl
  whole Aarch64 = refl

  pub pages_inside : (arch : Arch) → ((x : Placed) → IsIn x (sections_of images leaves)
      → is_inside (sections_end arch) x.section ≡ true)
      → All (λ p. (4096 ≤ p.vaddr) × (p.vaddr + 4096 ≤ sections_end arch)) (section_pages images leaves)
  pages_inside arch inside k d l =
      let pages = section_pages images leaves in
      let x = from_flat_map (pages_of images) (get_or pages k d) (by_address (sections_of images leaves)) (own_all pages k d l) in
      let i = listed x.0 x.1 in
      let s = sound_numbers x.0.section (h.sound x.0 i) in
      let within = and_parts (leb 4096 x.0.section.vaddr) (leb (x.0.section.vaddr + x.0.section.size) (sections_end arch))
      (inside x.0 i) in
      let low = leb-true 4096 x.0.section.vaddr within.0 in
      let high = leb-true (x.0.section.vaddr + x.0.section.size) (sections_end arch) within.1 in
      let p = from_page images x.0 (get_or pages k d) x.2 in (
        omega (arith, p.2, low),
        omega (
          arith,
          p.2,
          last_page x.0.section.vaddr x.0.section.size p.0 (sections_end arch) s.page
              (whole arch) high p.1,
        ),
      )
