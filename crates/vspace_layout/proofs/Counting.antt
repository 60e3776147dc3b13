-- How many pages a space has
use Rattle.vspace_layout.proofs.Common.{Bool, Images, List, Placed, Region, Settled, [], ap, arith, by_address, cond, false, flat_map, gather, leb, length, length-map, length-map-range_with_len, length_append, map, mapped_of, name_of, page_at}
use Rattle.vspace_layout.proofs.Common.{page_count, page_count_of, page_of, pages_from, pages_in, pages_of, put_section, refl, region_part, region_start, section_page_count, section_pages, sections_of, suc, sum, sum_by-cons, true, ℕ, ◌+◌, ◌∙◌, ◌∷◌}
use Rattle.vspace_layout.proofs.Common.{◌≡◌}

-- ---- of sections

pub one_section : (images : Images) (x : Placed) → length (pages_of images x) ≡ page_count x.section
one_section images x = length-map-range_with_len (page_at (name_of images x.image) x.section) 0 (page_count x.section)

more : (images : Images) (x : Placed) (xs : List Placed) → length (flat_map (pages_of images) (x ∷ xs)) ≡ page_count
    x.section + length (flat_map (pages_of images) xs)
more images x xs = length_append (pages_of images x) (flat_map (pages_of images) xs)
    ∙ ap (λ n. n + length (flat_map (pages_of images) xs)) (one_section images x)

put_in : (images : Images) (x : Placed) (ys : List Placed) → length (flat_map (pages_of images) (put_section x ys)) ≡ page_count
    x.section + length (flat_map (pages_of images) ys)
put_in images x [] = more images x []
put_in images x (y ∷ ys) = by_test (leb x.section.vaddr y.section.vaddr) (put_in images x ys)
  where
    by_test : (b : Bool) → length (flat_map (pages_of images) (put_section x ys)) ≡ page_count x.section + length
        (flat_map (pages_of images) ys)
        → length (flat_map (pages_of images) (cond b (x ∷ y ∷ ys) (y ∷ put_section x ys))) ≡ page_count x.section + length
        (flat_map (pages_of images) (y ∷ ys))
    by_test true ih = more images x (y ∷ ys)
    by_test false ih = let a = more images y (put_section x ys) in let d = more images y ys in omega (arith, a, ih, d)

ordered : (images : Images) (xs : List Placed) → length (flat_map (pages_of images) (by_address xs)) ≡ sum
    (map (λ x. page_count x.section) xs)
ordered images [] = refl
ordered images (x ∷ xs) =
    let a = put_in images x (by_address xs) in
    let b = ordered images xs in
    let d = sum_by-cons (λ n. n) (page_count x.section) (map (λ (y : Placed). page_count y.section) xs) in
    omega (arith, a, b, d)

pub length-section_pages : (images : Images) (leaves : List ℕ) → length (section_pages images leaves) ≡ section_page_count
    images leaves
length-section_pages images leaves = ordered images (sections_of images leaves)

-- ---- of regions

region_counted : (settled : Settled) (f : ℕ → ℕ) (rs : List Region)
    → length (gather (λ n r. pages_from settled (f n) r) rs) ≡ pages_in rs
region_counted settled f [] = refl
region_counted settled f (r ∷ rs) =
    let a = length_append (pages_from settled (f 0) r) (gather (λ n (q : Region). pages_from settled (f (suc n)) q) rs) in
    let b = length-map-range_with_len (page_of settled (f 0) r) 0 r.pages in
    let d = region_counted settled (λ n. f (suc n)) rs in
    omega (arith, a, b, d)

pub length-region_part : (settled : Settled) (base : ℕ) (rs : List Region) → length (region_part settled base rs) ≡ pages_in rs
length-region_part settled base rs = region_counted settled (λ n. region_start base rs n) rs

-- the pages of a space are as many as are counted before any is listed
pub counted : (settled : Settled) (images : Images) (leaves : List ℕ) (rs : List Region)
    → length (mapped_of settled images leaves rs) ≡ page_count_of images leaves rs
counted settled images leaves rs = grind (arith, length_append, length-map, length-section_pages, length-region_part)
