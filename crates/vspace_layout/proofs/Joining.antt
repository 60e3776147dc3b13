-- What is counted and listed domain by domain is what the definitions say of all
use Rattle.vspace_layout.proofs.Common.{Domain, FrameInfo, Given, List, MappedPage, Memory, Option, Outline, Own, Shown, Some, [], all_counted, all_mapped, all_own, ap, arch, arith, before, cond, count_by, counted_by, domain_counted, domain_mapped}
use Rattle.vspace_layout.proofs.Common.{gather, gather_map, gather_same, get_map, get_or, get_or_from_slice_get, is_own, is_own_frame, length, length_append, map, map-map, mapped_by, mapped_of, mapped_pages, no_outline, option_map_or, outline}
use Rattle.vspace_layout.proofs.Common.{outlines, own_added, own_frame, own_frames, own_part, page_counts, refl, regions_at, slice_get, suc, sum, sum_by-cons, sym, table_counts, tables_needed, tables_of, take, wired_of, zero, ℕ, ◌++◌, ◌+◌, ◌∙◌, ◌∷◌}
use Rattle.vspace_layout.proofs.Common.{rules, ◌≡◌}
use Rattle.vspace_layout.proofs.Counting.{counted}

abbrev pub here : Given → List ℕ → List MappedPage
here t leaves = domain_mapped t leaves

abbrev counted_here : Given → List ℕ → ℕ
counted_here t leaves = domain_counted t leaves

pub mapped_here : (t : Given) (d : ℕ) (x : Domain) → slice_get t.flat.domains d ≡ Some x → mapped_pages t d ≡ here t x.leaves
mapped_here t d x e = ap (λ (o : Option Domain). here t (option_map_or (λ y. y.leaves) o [])) e

count_here : (t : Given) (d : ℕ) (x : Domain) → slice_get t.flat.domains d ≡ Some x
    → length (mapped_pages t d) ≡ counted_here t x.leaves
count_here t d x e = ap (λ (ps : List MappedPage). length ps) (mapped_here t d x e) ∙ counted t.settled t.images x.leaves
    (regions_at (wired_of t) x.leaves)

-- the pages of all domains are as many as are counted
pub pages_counted : (t : Given) → sum (page_counts t) ≡ all_counted t
pages_counted t =
    ap sum (
    gather_same (λ d (x : Domain). length (mapped_pages t d) ∷ []) (λ d (x : Domain). counted_here t x.leaves ∷ []) t.flat.domains
    (λ k x e. ap (λ n. n ∷ []) (count_here t k x e))
    ∙ gather_map (λ (x : Domain). counted_here t x.leaves) t.flat.domains
    )

-- and so are their page tables
pub tables_counted : (t : Given)
    → sum (table_counts t) ≡ sum (map (tables_of (arch t)) (all_mapped t))
tables_counted t =
    ap sum (
    gather_same (λ d (x : Domain). tables_needed t d ∷ []) (λ d (x : Domain). tables_of (arch t) (here t x.leaves) ∷ [])
    t.flat.domains
    (λ k x e. ap (λ ps. tables_of (arch t) ps ∷ []) (mapped_here t k x e))
    ∙ gather_map (λ (x : Domain). tables_of (arch t) (here t x.leaves)) t.flat.domains
    ∙ sym (map-map (tables_of (arch t)) (λ (x : Domain). here t x.leaves) t.flat.domains)
    )

-- ---- where the outline of each domain is given

apart : (f : Domain → ℕ) (g : Outline → ℕ) (h : Domain → Outline) (ds : List Domain)
    → sum (map f ds) + sum (map g (map h ds)) ≡ sum (map (λ d. f d + g (h d)) ds)
apart f g h [] = refl
apart f g h (d ∷ ds) =
    let ih = apart f g h ds in
    let a = sum_by-cons (λ (n : ℕ). n) (f d) (map f ds) in
    let b = sum_by-cons (λ (n : ℕ). n) (g (h d)) (map g (map h ds)) in
    let e = sum_by-cons (λ (n : ℕ). n) (f d + g (h d)) (map (λ x. f x + g (h x)) ds) in
    omega (arith, ih, a, b, e)

pub counted_same : (t : Given) → counted_by t.flat t.images (outlines (wired_of t)) ≡ sum (page_counts t)
counted_same t = search (rules, apart, pages_counted)

pub mapped_same : (t : Given) → mapped_by t.flat t.settled t.images (outlines (wired_of t)) ≡ all_mapped t
mapped_same t =
    let of : Domain → Outline = λ x. outline (wired_of t) x.leaves in
    gather_same (λ n (x : Domain). mapped_of t.settled t.images x.leaves (get_or (map of t.flat.domains) n no_outline).regions
    ∷ []) (λ n (x : Domain). here t x.leaves ∷ []) t.flat.domains
    (λ n x e. ap (λ (o : Outline). mapped_of t.settled t.images x.leaves o.regions ∷ [])
    (get_or_from_slice_get (map of t.flat.domains) n (of x) no_outline (get_map of t.flat.domains n x e)))
    ∙ gather_map (λ (x : Domain). here t x.leaves) t.flat.domains

-- ---- frames

pub gather_mapped : {X Y Z : Type 0} (g : ℕ → Y → List Z) (f : X → Y) (xs : List X)
    → gather g (map f xs) ≡ gather (λ n x. g n (f x)) xs
gather_mapped g f [] = refl
gather_mapped g f (x ∷ xs) = ap (λ z. g 0 (f x) ++ z) (gather_mapped (λ n y. g (suc n) y) f xs)

pub take_mapped : {X Y : Type 0} (f : X → Y) (n : ℕ) (xs : List X) → take n (map f xs) ≡ map f (take n xs)
take_mapped f zero [] = refl
take_mapped f zero (x ∷ xs) = refl
take_mapped f (suc n) [] = refl
take_mapped f (suc n) (x ∷ xs) = ap (λ z. f x ∷ z) (take_mapped f n xs)

get_taken : {X : Type 0} (xs : List X) (n k : ℕ) (x : X) → slice_get (take n xs) k ≡ Some x → slice_get xs k ≡ Some x
get_taken [] zero k x e = e
get_taken [] (suc n) k x e = e
get_taken (y ∷ xs) zero k x e = cc
get_taken (y ∷ xs) (suc n) zero x e = e
get_taken (y ∷ xs) (suc n) (suc k) x e = get_taken xs n k x e

-- the own frames of all domains, and of those before one
pub own_gathered : (t : Given) → gather own_added (all_mapped t) ≡ own_part t
own_gathered t = search (rules, gather_mapped, gather_same, mapped_here)

pub own_before : (t : Given) (d : ℕ) → before own_added (all_mapped t) d ≡ before (own_frames t)
    t.flat.domains d
own_before t d =
    ap (λ (z : List (List MappedPage)). length (gather own_added z)) (take_mapped (λ (x : Domain). here t x.leaves) d
    t.flat.domains)
    ∙ ap (λ (z : List FrameInfo). length z) (
    gather_mapped own_added (λ (x : Domain). here t x.leaves) (take d t.flat.domains)
    ∙ gather_same (λ n (x : Domain). own_added n (here t x.leaves)) (own_frames t) (take d t.flat.domains)
    (λ k x e. ap (own_added k) (sym (mapped_here t k x (get_taken t.flat.domains d k x e))))
    )

one : (d : ℕ) (s : Shown) → length (own_frame d s) ≡ cond (is_own_frame s) 1 0
one d (Own fill) = refl
one d (Memory k j) = refl

own_counted : (f : ℕ → ℕ) (ps : List MappedPage)
    → length (gather (λ n (p : MappedPage). own_frame (f n) p.shown) ps) ≡ count_by is_own ps
own_counted f [] = refl
own_counted f (p ∷ ps) =
    let a = length_append (own_frame (f 0) p.shown) (gather (λ n (q : MappedPage). own_frame (f (suc n)) q.shown) ps) in
    let b = one (f 0) p.shown in
    let d = own_counted (λ n. f (suc n)) ps in
    let e = sum_by-cons (λ (q : MappedPage). cond (is_own q) 1 0) p ps in
    omega (arith, a, b, d, e)

all_counted_own : (f : ℕ → ℕ) (ls : List (List MappedPage)) → length (gather (λ n ps. own_added (f n) ps) ls) ≡ all_own ls
all_counted_own f [] = refl
all_counted_own f (ps ∷ ls) =
    let a = length_append (own_added (f 0) ps) (gather (λ n (qs : List MappedPage). own_added (f (suc n)) qs) ls) in
    let b = own_counted (λ n. f 0) ps in
    let d = all_counted_own (λ n. f (suc n)) ls in
    let e = sum_by-cons (λ n. n) (count_by is_own ps) (map (λ (qs : List MappedPage). count_by is_own qs) ls) in
    omega (arith, a, b, d, e)

-- how many own frames there are
pub own_number_of : (t : Given) → all_own (all_mapped t) ≡ length (own_part t)
own_number_of t = sym (all_counted_own (λ n. n) (all_mapped t))
    ∙ ap (λ (z : List FrameInfo). length z) (own_gathered t)
