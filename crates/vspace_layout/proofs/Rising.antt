-- The pages of a space rise
use Rattle.vspace_layout.proofs.Common.{All, AllPairs, Given, IsIn, Later, List, MappedPage, PagesRise, Region, SectionPage, SectionsStand, Settled, Some, Window, [], ap, arith, base, flat_map, gather, in_map, inl, inr, leaves_of, map}
use Rattle.vspace_layout.proofs.Common.{map-append, mapped_pages, page_of, pages_from, range_with_len, refl, region_page, region_part, regions, section_page, section_pages, section_part, slice_get, start, subst, suc, sym, zero, ℕ, ◌%◌, ◌*◌, ◌++◌}
use Rattle.vspace_layout.proofs.Common.{◌+◌, ◌<◌, ◌∙◌, ◌∷◌, ◌≡◌, ◌≤◌}
use Rattle.page_tables.specs.Runs.{Rises}
use Rattle.vspace_layout.specs.declared.region.Content.{Content}
use Rattle.vspace_layout.proofs.Apart.{apart}
use Rattle.cap_model.proofs.Eaches.{each_then, Each}

-- ---- each of a list, and each with each later one

pub each_append : {X : Type 0} (P : X → Type 0) (xs ys : List X) → Each P xs → Each P ys → Each P (xs ++ ys)
each_append P [] ys a b = b
each_append P (x ∷ xs) ys a b = (a.0, each_append P xs ys a.1 b)

pub each_in : {X : Type 0} (P : X → Type 0) (xs : List X) (x : X) → Each P xs → IsIn x xs → P x
each_in P [] x a i = absurd i
each_in P (y ∷ xs) x a (inl e) = subst P e a.0
each_in P (y ∷ xs) x a (inr i) = each_in P xs x a.1 i

pub each_all : {X : Type 0} (P : X → Type 0) (xs : List X) → All P xs → Each P xs
each_all P [] h = tt
each_all P (x ∷ xs) h = (h 0 x (omega arith), each_all P xs (λ i d l. h (suc i) d (omega (arith, l))))

each_from : {X : Type 0} (P : X → Type 0) (xs : List X) → ((x : X) → IsIn x xs → P x) → Each P xs
each_from P [] h = tt
each_from P (x ∷ xs) h = (h x (inl refl), each_from P xs (λ y i. h y (inr i)))

each_map : {X Y : Type 0} (P : Y → Type 0) (f : X → Y) (xs : List X) → Each (λ x. P (f x)) xs → Each P (map f xs)
each_map P f [] h = tt
each_map P f (x ∷ xs) h = (h.0, each_map P f xs h.1)

pub each_gather : {X Y : Type 0} (P : Y → Type 0) (f : ℕ → X → Y) (xs : List X) → ((i : ℕ) (x : X) → slice_get xs i ≡ Some x
    → P (f i x)) → Each P (gather (λ n x. f n x ∷ []) xs)
each_gather P f [] h = tt
each_gather P f (x ∷ xs) h = (h 0 x refl, each_gather P (λ n z. f (suc n) z) xs (λ i z e. h (suc i) z e))

pub later_ones : {X Y : Type 0} (R : Y → Y → Type 0) (f : ℕ → X → Y) (xs : List X)
    → ((i j : ℕ) (x y : X) → i < j → slice_get xs i ≡ Some x → slice_get xs j ≡ Some y → R (f i x) (f j y))
    → Later R (gather (λ n x. f n x ∷ []) xs)
later_ones R f [] h = tt
later_ones R f (x ∷ xs) h = (
  λ y i. each_in (R (f 0 x)) (gather (λ n z. f (suc n) z ∷ []) xs) y (each_gather (R (f 0 x)) (λ n z. f (suc n) z) xs
      (λ j z e. h 0 (suc j) x z (omega arith) refl e)) i,
  later_ones R (λ n z. f (suc n) z) xs (λ i j y z l e g. h (suc i) (suc j) y z (omega (arith, l)) e g),
)

-- ---- blocks of pages

record Block : Type 0 where
  at : ℕ
  pages : ℕ

abbrev block : ℕ → ℕ → Block
block at pages = record { at = at; pages = pages }

abbrev addresses_of : Block → List ℕ
addresses_of b = map (λ j. b.at + 4096 * j) (range_with_len 0 b.pages)

abbrev addresses : List Block → List ℕ
addresses bs = flat_map addresses_of bs

abbrev ends : Block → ℕ
ends b = b.at + 4096 * b.pages

abbrev Before : Block → Block → Type 0
Before a b = ends a ≤ b.at

rises_from : (at a n : ℕ) → Rises (map (λ j. at + 4096 * j) (range_with_len a n))
rises_from at a zero = tt
rises_from at a (suc zero) = (tt, tt)
rises_from at a (suc (suc n)) = (omega arith, rises_from at (a + 1) (suc n))

low_from : (at a n low : ℕ) → low ≤ at + 4096 * a → Each (λ v. low ≤ v) (map (λ j. at + 4096 * j) (range_with_len a n))
low_from at a zero low l = tt
low_from at a (suc n) low l = (l, low_from at (a + 1) n low (omega (arith, l)))

high_from : (at a n high : ℕ) → at + 4096 * (a + n) ≤ high → Each (λ v. v < high) (map (λ j. at + 4096 * j) (range_with_len a n))
high_from at a zero high l = tt
high_from at a (suc n) high l = (omega (arith, l), high_from at (a + 1) n high (omega (arith, l)))

low_blocks : (bs : List Block) (low : ℕ) → Each (λ b. low ≤ b.at) bs → Each (λ v. low ≤ v) (addresses bs)
low_blocks [] low h = tt
low_blocks (b ∷ bs) low h = each_append (λ v. low ≤ v) (addresses_of b) (addresses bs)
    (low_from b.at 0 b.pages low (let l = h.0 in omega (arith, l))) (low_blocks bs low h.1)

rises_append : (xs ys : List ℕ) (mid : ℕ) → Rises xs → Rises ys → Each (λ v. v < mid) xs → Each (λ v. mid ≤ v) ys
    → Rises (xs ++ ys)
rises_append [] ys mid a b h l = b
rises_append (x ∷ []) [] mid a b h l = (tt, tt)
rises_append (x ∷ []) (y ∷ ys) mid a b h l = (let s = h.0 in let g = l.0 in omega (arith, s, g), b)
rises_append (x ∷ z ∷ xs) ys mid a b h l = (a.0, rises_append (z ∷ xs) ys mid a.1 b h.1 l)

blocks_rise : (bs : List Block) → Later Before bs → Rises (addresses bs)
blocks_rise [] p = tt
blocks_rise (b ∷ bs) p =
    rises_append (addresses_of b) (addresses bs) (ends b) (rises_from b.at 0 b.pages) (blocks_rise bs p.1)
    (high_from b.at 0 b.pages (ends b) (omega arith)) (low_blocks bs (ends b) (each_from (λ (a : Block). ends b ≤ a.at) bs p.0))

whole_from : (at a n : ℕ) → at % 4096 ≡ 0 → Each (λ v. v % 4096 ≡ 0) (map (λ j. at + 4096 * j) (range_with_len a n))
whole_from at a zero w = tt
whole_from at a (suc n) w = (omega (arith, w), whole_from at (a + 1) n w)

whole_blocks : (bs : List Block) → Each (λ b. b.at % 4096 ≡ 0) bs → Each (λ v. v % 4096 ≡ 0) (addresses bs)
whole_blocks [] h = tt
whole_blocks (b ∷ bs) h = each_append (λ v. v % 4096 ≡ 0) (addresses_of b) (addresses bs) (whole_from b.at 0 b.pages h.0)
    (whole_blocks bs h.1)

-- ---- the addresses of a space

abbrev at_of : MappedPage → ℕ
at_of p = p.at

abbrev vaddr_of : SectionPage → ℕ
vaddr_of p = p.vaddr

mapped_twice : {X Y Z : Type 0} (g : Y → Z) (f : X → Y) (h : X → Z) → ((x : X) → g (f x) ≡ h x) → (xs : List X)
    → map g (map f xs) ≡ map h xs
mapped_twice g f h e [] = refl
mapped_twice {X} {Y} {Z} g f h e (x ∷ xs) = ap (λ z. z ∷ map g (map f xs)) (e x) ∙ ap (λ z. h x ∷ z) (mapped_twice g f h e xs)

abbrev region_blocks : (ℕ → ℕ) → List Region → List Block
region_blocks f rs = gather (λ n r. block (f n) r.pages ∷ []) rs

pub region_at : (settled : Settled) (c : Content) (at j : ℕ) → at_of (region_page settled c at j) ≡ at
region_at settled (Window e) at j = refl
region_at settled _ at j = refl

region_addresses : (settled : Settled) (f : ℕ → ℕ) (rs : List Region)
    → map at_of (gather (λ n r. pages_from settled (f n) r) rs) ≡ addresses (region_blocks f rs)
region_addresses settled f [] = refl
region_addresses settled f (r ∷ rs) =
    map-append at_of (pages_from settled (f 0) r) (gather (λ n (q : Region). pages_from settled (f (suc n)) q) rs)
    ∙ ap (λ z. z ++ map at_of (gather (λ n (q : Region). pages_from settled (f (suc n)) q) rs))
    (mapped_twice at_of (page_of settled (f 0) r) (λ j. f 0 + 4096 * j) (λ j. region_at settled r.content (f 0 + 4096 * j) j)
    (range_with_len 0 r.pages))
    ∙ ap (λ z. addresses_of (block (f 0) r.pages) ++ z) (region_addresses settled (λ n. f (suc n)) rs)

abbrev blocks : Given → ℕ → List Block
blocks t d = region_blocks (start t d) (regions t d)

abbrev sections : Given → ℕ → List SectionPage
sections t d = section_pages t.images (leaves_of t.flat d)

all_addresses : (t : Given) (d : ℕ) → map at_of (mapped_pages t d) ≡ map vaddr_of (sections t d) ++ addresses (blocks t d)
all_addresses t d =
    map-append at_of (section_part t.images (leaves_of t.flat d)) (region_part t.settled (base t) (regions t d))
    ∙ ap (λ z. z ++ map at_of (region_part t.settled (base t) (regions t d))) (mapped_twice at_of section_page vaddr_of
    (λ p. refl) (sections t d))
    ∙ ap (λ z. map vaddr_of (sections t d) ++ z) (region_addresses t.settled (start t d) (regions t d))

sections_rise : (ps : List SectionPage) → AllPairs (λ p q. p.vaddr + 4096 ≤ q.vaddr) ps → Rises (map vaddr_of ps)
sections_rise [] h = tt
sections_rise (p ∷ []) h = (tt, tt)
sections_rise (p ∷ q ∷ ps) h = (
  let l = h 0 1 p (omega arith) (omega arith) in omega (arith, l),
  sections_rise (q ∷ ps) (λ i j d l k. h (suc i) (suc j) d (omega (arith, l)) (omega (arith, k))),
)

pub rising : (t : Given) (d : ℕ) → SectionsStand t d → PagesRise t d
rising t d h =
    let r = apart t d in
    let P : List ℕ → Type 0 = λ vs. Each (λ v. v % 4096 ≡ 0) vs in
    let whole : P (map vaddr_of (sections t d) ++ addresses (blocks t d)) =
    each_append (λ v. v % 4096 ≡ 0) (map vaddr_of (sections t d)) (addresses (blocks t d))
    (each_map (λ v. v % 4096 ≡ 0) vaddr_of (sections t d) (each_all (λ p. p.vaddr % 4096 ≡ 0) (sections t d) h.aligned))
    (whole_blocks (blocks t d) (each_gather (λ b. b.at % 4096 ≡ 0) (λ n (q : Region). block (start t d n) q.pages) (regions t d)
    (λ j x g. r.aligned j))) in
    let below : Each (λ v. v < base t) (map vaddr_of (sections t d)) =
    each_map (λ v. v < base t) vaddr_of (sections t d)
    (each_then (λ p. p.vaddr + 4096 ≤ base t) (λ p. p.vaddr < base t) (sections t d) (λ p l. omega (arith, l))
    (each_all (λ p. p.vaddr + 4096 ≤ base t) (sections t d) h.below)) in
    let above : Each (λ v. base t ≤ v) (addresses (blocks t d)) =
    low_blocks (blocks t d) (base t) (each_gather (λ b. base t ≤ b.at) (λ n (q : Region). block (start t d n) q.pages)
    (regions t d) (λ j x g. (let u = r.above j in omega (arith, u)))) in
    let rise : Rises (map vaddr_of (sections t d) ++ addresses (blocks t d)) =
    rises_append (map vaddr_of (sections t d)) (addresses (blocks t d)) (base t) (sections_rise (sections t d) h.apart)
    (blocks_rise (blocks t d) (later_ones Before (λ n (q : Region). block (start t d n) q.pages) (regions t d)
    (λ i j x y l e g. (let a = r.apart i j x l e in omega (arith, a)))))
    below above in
    record {
      aligned = λ p i. each_in (λ v. v % 4096 ≡ 0) (map at_of (mapped_pages t d)) p.at (subst P (sym (all_addresses t d)) whole)
          (in_map at_of p (mapped_pages t d) i);
      rise = subst Rises (sym (all_addresses t d)) rise;
    }
