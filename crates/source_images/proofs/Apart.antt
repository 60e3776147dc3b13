-- Sections of a domain that lie apart begin at addresses that differ.
use Rattle.source_images.proofs.Common.{AreApart, Bool, Image, Images, IsIn, List, None, Option, Placed, Section, Some, [], and_from, and_left, and_parts, and_right, ap, arith, both_ways, cases_Bool, clashes, clashes_with, eq-eqb, eqb-true, false}
use Rattle.source_images.proofs.Common.{from_any, from_gather, image_number, in_any, inl, inr, is_run, is_sound, list_any, lt-ltb, ltb-true, nat_eq, ne_eqb, not, not-true, option_map_or, placed, refl, sections_if, sections_of, share_page, suc, sym}
use Rattle.source_images.proofs.Common.{rules, true, zero, ℕ, ⊎_elim, ◌%◌, ◌&&◌, ◌+◌, ◌/◌, ◌<◌, ◌^◌, ◌∙◌, ◌∷◌, ◌≡◌}
use Rattle.std.specs.Prelude.{IsTrue}
use Rattle.source_images.proofs.SectionsTold.{comes_from}
use Rattle.source_images.proofs.Sorting.{Differ, Later, later_gather, later_within}

-- ---- each section of a domain has numbers of its own

abbrev pub same_numbers : Placed → Placed → Bool
same_numbers x y = nat_eq x.image y.image && nat_eq x.number y.number

abbrev AreTwo : Placed → Placed → Type 0
AreTwo x y = same_numbers x y ≡ false

image_if : (b : Bool) (m : ℕ) (image : Image) (x : Placed) → IsIn x (sections_if b m image) → x.image ≡ m
image_if false m image x i = absurd i
image_if true m image x i =
    let k = from_gather (λ n section. placed m n section ∷ []) x image.sections i in
    ⊎_elim (λ e. ap (λ z. z.image) (sym e)) (λ j. absurd j) k.3

number_of : (m n : ℕ) (section : Section) (x : Placed) → IsIn x (placed m n section ∷ []) → x.number ≡ 0 + n
number_of m n section x (inl e) = ap (λ z. z.number) (sym e) ∙ omega arith
number_of m n section x (inr j) = absurd j

two_if : (b : Bool) (m : ℕ) (image : Image) → Later AreTwo (sections_if b m image)
two_if false m image = tt
two_if true m image =
    later_gather AreTwo (λ n section. placed m n section ∷ []) (λ x. x.number) 0 image.sections
    (λ n section x i. number_of m n section x i) (λ n section. ((λ y i. absurd i), tt))
    (λ x y d. and_right (nat_eq x.image y.image) (nat_eq x.number y.number) (ne_eqb x.number y.number d))

pub all_two : (images : Images) (leaves : List ℕ) → Later AreTwo (sections_of images leaves)
all_two images leaves =
    later_gather AreTwo (λ m image. sections_if (is_run images leaves m) m image) (λ x. x.image) 0 images.images
    (λ m image x i. image_if (is_run images leaves m) m image x i ∙ omega arith)
    (λ m image. two_if (is_run images leaves m) m image)
    (λ x y d. and_left (nat_eq x.image y.image) (nat_eq x.number y.number) (ne_eqb x.image y.image d))

-- ---- none of them has a page of another one

number_some : (o : Option ℕ) (m : ℕ) → option_map_or (λ k. nat_eq k m) o false ≡ true → o ≡ Some m
number_some None m e = cc
number_some (Some k) m e = ap (λ z. Some z) (eqb-true k m e)

-- a leaf that runs the image of a section
pub run_by : (images : Images) (leaves : List ℕ) (x : Placed) → IsIn x (sections_of images leaves) → (leaf : ℕ) × IsIn leaf leaves
    × (image_number images leaf ≡ Some x.image)
run_by images leaves x i = search (rules, from_any, comes_from, number_some)

pub no_clash : (images : Images) (leaves : List ℕ) (x y : Placed) → AreApart images leaves → IsIn x (sections_of images leaves)
    → IsIn y (sections_of images leaves) → clashes_with x y ≡ false
no_clash images leaves x y h i j =
    let all = sections_of images leaves in
    let leaf = run_by images leaves x i in
    let none : clashes all x.image ≡ false = h.apart leaf.0 x.image leaf.1 leaf.2 in
    ⊎_elim
    (λ t. absurd (both_ways (clashes all x.image) none
    (in_any (λ z. nat_eq z.image x.image && list_any (clashes_with z) all) all x i
    (and_from (nat_eq x.image x.image) (list_any (clashes_with x) all) (eq-eqb x.image x.image refl)
    (in_any (clashes_with x) all y j t)))))
    (λ f. f)
    (cases_Bool (clashes_with x y))

-- ---- so their addresses differ

-- what it is to be sound, in numbers
pub record AreSoundNumbers (s : Section) : Type 0 where
  pub page : s.vaddr % 4096 ≡ 0
  pub some : 0 < s.size
  pub ends : s.vaddr + s.size < 2 ^ 64

above_zero : (n : ℕ) → (n ≡ 0 → ⊥) → 0 < n
above_zero zero h = absurd (h refl)
above_zero (suc n) h = omega arith

pub sound_numbers : (s : Section) → IsTrue (is_sound s) → AreSoundNumbers s
sound_numbers s t =
    let a = and_parts _ _ t in
    let b = and_parts _ _ a.1 in
    let c = and_parts _ _ b.1 in
    record {
      page = eqb-true (s.vaddr % 4096) 0 a.0;
      some = above_zero s.size (λ e. both_ways (nat_eq s.size 0) (not-true (nat_eq s.size 0) b.0) (eq-eqb s.size 0 e));
      ends = ltb-true (s.vaddr + s.size) (2 ^ 64) c.0;
    }

behind_first : (v w n : ℕ) → v ≡ w → 0 < n → v / 4096 < w / 4096 + (n + 4095) / 4096
behind_first v w n e l = let same = ap (λ z. z / 4096) e in omega arith

share_at_one : (a b : Section) → a.vaddr ≡ b.vaddr → 0 < a.size → 0 < b.size → share_page a b ≡ true
share_at_one a b e l k = and_from _ _ (lt-ltb _ _ (behind_first a.vaddr b.vaddr b.size e k))
    (lt-ltb _ _ (behind_first b.vaddr a.vaddr a.size (sym e) l))

abbrev pub address : Placed → ℕ
address x = x.section.vaddr

pub addresses_differ : (images : Images) (leaves : List ℕ) → AreApart images leaves → Differ address (sections_of images leaves)
addresses_differ images leaves h =
    later_within AreTwo (λ x y. address x ≡ address y → ⊥) (sections_of images leaves)
    (λ x y i j two e. both_ways (clashes_with x y) (no_clash images leaves x y h i j)
    (and_from (not (same_numbers x y)) (share_page x.section y.section) (ap (λ z. not z) two)
    (share_at_one x.section y.section e (sound_numbers x.section (h.sound x i)).some
    (sound_numbers y.section (h.sound y j)).some)))
    (all_two images leaves)
