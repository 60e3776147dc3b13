-- Where no limit on pages is passed, regions and frames are few
use Rattle.vspace_layout.proofs.Common.{AreFew, Bool, CanLay, Domain, FlatConnection, FlatEnd, Given, List, MappedPage, Memory, None, OfConnection, Option, Own, Shown, Some, [], ap, arith, cond, device_frame, false, frame, frames, frames_at, gather}
use Rattle.vspace_layout.proofs.Common.{is_first, is_shared, length, length-gather, length-map-range_with_len, length_append, map, mapped_pages, memory_paddr, memory_pages, option_map_or, own_frame, own_frames, own_part, page_counts, pages_in}
use Rattle.vspace_layout.proofs.Common.{range_with_len, refl, regions, register_frames, register_part, registers, same_Some, shared_frames, shared_part, slice_get, suc, sum, sum_by-cons, threads_of, true, windows_of, zero, ℕ, ◌*◌, ◌<◌}
use Rattle.vspace_layout.proofs.Common.{◌^◌, ◌∷◌, ◌≡◌, ◌≤◌}
use Rattle.vspace_layout.proofs.Counting.{length-region_part}
use Rattle.vspace_layout.proofs.Fitting.{few_regions}

-- ---- sums

part_of_sum : {X : Type 0} (f : ℕ → X → ℕ) (xs : List X) (k : ℕ) (x : X) → slice_get xs k ≡ Some x
    → f k x ≤ sum (gather (λ n x. f n x ∷ []) xs)
part_of_sum f [] k x e = cc
part_of_sum {X} f (y ∷ xs) zero x e =
    let same : f 0 y ≡ f 0 x = ap (f 0) (same_Some y x e) in
    let s = sum_by-cons (λ (n : ℕ). n) (f 0 y) (gather (λ n z. f (suc n) z ∷ []) xs) in
    omega (arith, same, s)
part_of_sum f (y ∷ xs) (suc k) x e =
    let ih = part_of_sum (λ n z. f (suc n) z) xs k x e in
    let s = sum_by-cons (λ (n : ℕ). n) (f 0 y) (gather (λ n z. f (suc n) z ∷ []) xs) in
    omega (arith, ih, s)

within_sum : {X Y : Type 0} (f : ℕ → X → List Y) (g : ℕ → X → ℕ) (xs : List X) → ((k : ℕ) (x : X) → length (f k x) ≤ g k x)
    → length (gather f xs) ≤ sum (gather (λ n x. g n x ∷ []) xs)
within_sum f g [] h = omega arith
within_sum f g (x ∷ xs) h =
    let ih = within_sum (λ n z. f (suc n) z) (λ n z. g (suc n) z) xs (λ k z. h (suc k) z) in
    let a = length_append (f 0 x) (gather (λ n z. f (suc n) z) xs) in
    let s = sum_by-cons (λ (n : ℕ). n) (g 0 x) (gather (λ n z. g (suc n) z ∷ []) xs) in
    let b = h 0 x in
    omega (arith, ih, a, s, b)

at_most : {X Y : Type 0} (f : ℕ → X → List Y) (xs : List X) → ((k : ℕ) (x : X) → slice_get xs k ≡ Some x → length (f k x) ≤ 65536)
    → length (gather f xs) ≤ 65536 * length xs
at_most f [] h = omega arith
at_most f (x ∷ xs) h =
    let ih = at_most (λ n z. f (suc n) z) xs (λ k z e. h (suc k) z e) in
    let a = length_append (f 0 x) (gather (λ n z. f (suc n) z) xs) in
    let b = h 0 x refl in
    omega (arith, ih, a, b)

-- ---- regions

pages_below : (t : Given) (d : ℕ) → pages_in (regions t d) ≤ length (mapped_pages t d)
pages_below t d = grind (arith, length_append, length-region_part)

pub few_at : (t : Given) → CanLay t → sum (page_counts t) ≤ 65536 → (d : ℕ) (x : Domain) → slice_get t.flat.domains d ≡ Some x
    → AreFew (regions t d)
few_at t can l d x e =
    let part = part_of_sum (λ n (y : Domain). length (mapped_pages t n)) t.flat.domains d x e in
    let a = pages_below t d in
    let b = few_regions t.flat t.settled (threads_of t d) (windows_of t d) (can.windows d) in
    omega (arith, l, part, a, b)

-- ---- frames

pub own_one : (d : ℕ) (s : Shown) → length (own_frame d s) ≤ 1
own_one d (Own fill) = omega arith
own_one d (Memory k j) = omega arith

pub own_few : (t : Given) → length (own_part t) ≤ sum (page_counts t)
own_few t = within_sum (own_frames t) (λ n (x : Domain). length (mapped_pages t n)) t.flat.domains
    (λ k x. length-gather (λ n (p : MappedPage). own_frame k p.shown) (mapped_pages t k) (λ n p. own_one k p.shown))

pub shared_few : (t : Given) → CanLay t → length (shared_part t.flat t.settled) ≤ 65536 * length t.flat.connections
shared_few t can = at_most (shared_frames t.settled) t.flat.connections
    (λ k c e. by_test k c (is_shared c.connector) (can.memory k c e))
  where
    by_test : (k : ℕ) (c : FlatConnection) (b : Bool) → memory_pages t.settled k c ≤ 65536
        → length (cond b (map (λ j. frame (OfConnection k) None None) (range_with_len 0 (memory_pages t.settled k c))) []) ≤ 65536
    by_test k c true l = let n = length-map-range_with_len (λ j. frame (OfConnection k) None None) 0
        (memory_pages t.settled k c) in omega (arith, n, l)
    by_test k c false l = omega arith

pub registers_few : (t : Given) → CanLay t → length (register_part t.flat t.settled) ≤ 65536 * length t.flat.connections
registers_few t can = at_most (register_frames t.flat t.settled) t.flat.connections
    (λ k c e. by_end k c (registers c) (can.memory k c e))
  where
    by_test : (k : ℕ) (c : FlatConnection) (f : FlatEnd) (b : Bool) → memory_pages t.settled k c ≤ 65536
        → length (cond b (map (device_frame f.leaf (memory_paddr t.settled k c)) (range_with_len 0 (memory_pages t.settled k c)))
        []) ≤ 65536
    by_test k c f true l = let n = length-map-range_with_len (device_frame f.leaf (memory_paddr t.settled k c)) 0
        (memory_pages t.settled k c) in omega (arith, n, l)
    by_test k c f false l = omega arith

    by_end : (k : ℕ) (c : FlatConnection) (o : Option FlatEnd) → memory_pages t.settled k c ≤ 65536
        → length (option_map_or (frames_at t.flat t.settled k c) o []) ≤ 65536
    by_end k c None l = omega arith
    by_end k c (Some f) l = by_test k c f (is_first t.flat k f) l

pub frames_few : (t : Given) → CanLay t → sum (page_counts t) ≤ 65536 → length (frames t) < 2 ^ 32
frames_few t can l = grind (arith, own_few, shared_few, registers_few, length_append)
