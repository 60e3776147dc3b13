-- Frames are no more than pages: own frames are pages of their own, and memory is seen through a window.
use Rattle.spec_laws.proofs.Common.{Bool, Connector, Content, Domain, EndAt, FlatConnection, FlatEnd, Given, HasMemory, IsIn, IsSeen, List, MappedPage, Memory, Mmio, None, Option, Own, Region, Settled}
use Rattle.spec_laws.proofs.Common.{SharedMemory, Shown, Some, Window, [], ap, arith, base, cond, connection_frames, eq-eqb, eqb-true, false, false_from_ne_true, first_to_end, flat_map, frames, frames_at, from_map, gather}
use Rattle.spec_laws.proofs.Common.{in_gather, inr, is_shared, leaves_of, length, length_append, map, mapped_pages, memory_pages, memory_part, option_map_or, own_frame, own_frames, own_part, page_counts, page_of}
use Rattle.spec_laws.proofs.Common.{pages_from, pages_of_region, refl, region_part, region_start, regions, register_frames, register_part, registers_in, section_part, shared_frames, shared_part, slice_get, suc, sum, sym}
use Rattle.spec_laws.proofs.Common.{rules, thread_regions, threads_of, true, window_pages, window_region, windows_of, ℕ, ◌+◌, ◌==◌, ◌∙◌, ◌∷◌, ◌≡◌, ◌≤◌}
use Rattle.std.proofs.lemmas.List.FromFn.{length-map-range_with_len}
use Rattle.spec_laws.proofs.Totals.{length_gather, length_is, sum_ones, total, total_append, total_gather, total_map, total_most, total_one, totals, totals_add, totals_each, totals_flat, totals_most, totals_same, totals_swap}

-- ---- pages

abbrev is_own : Shown → ℕ
is_own (Own fill) = 1
is_own (Memory k j) = 0

abbrev is_seen : Shown → ℕ
is_seen (Own fill) = 0
is_seen (Memory k j) = 1

either : (s : Shown) → is_own s + is_seen s ≡ 1
either (Own fill) = refl
either (Memory k j) = refl

all_pages : (ps : List MappedPage) → total (λ (p : MappedPage). is_own p.shown) ps + total (λ (p : MappedPage). is_seen p.shown)
    ps ≡ length ps
all_pages [] = refl
all_pages (p ∷ ps) = let e = either p.shown in let ih = all_pages ps in omega (arith, e, ih)

own_length : (d : ℕ) (s : Shown) → length (own_frame d s) ≡ is_own s
own_length d (Own fill) = refl
own_length d (Memory k j) = refl

-- ---- windows

-- the pages of a region that are seen memory
abbrev window_size : Content → ℕ → ℕ
window_size (Window e) n = n
window_size _ n = 0

region_seen : (settled : Settled) (start : ℕ) (r : Region) (c : Content) → r.content ≡ c
    → window_size c r.pages ≤ total (λ (p : MappedPage). is_seen p.shown) (pages_from settled start r)
region_seen settled start r (Window w) e =
    let ps = pages_from settled start r in
    let n = length-map-range_with_len (page_of settled start r) 0 r.pages in
    omega (arith, n, length_is ps, total_most (λ (p : MappedPage). 1) (λ p. is_seen p.shown) ps (λ p i. one p i)) where
      one : (p : MappedPage) → IsIn p (pages_from settled start r) → 1 ≤ is_seen p.shown
      one p i = grind (arith, from_map)
region_seen settled start r _ e = omega arith

-- ---- one hit at most

none_hit : {X : Type 0} (w n : ℕ) (f : ℕ → ℕ) (xs : List X) → ((k : ℕ) → n ≡ f k → ⊥)
    → totals (λ k (x : X). cond (n == f k) w 0) xs ≤ 0
none_hit w n f xs h =
    let a = totals_each (λ k x. cond (n == f k) w 0) 0 xs (λ k x e. let z : cond (n == f k) w 0 ≡ 0 = ap (λ b. cond b w 0)
    (false_from_ne_true (n == f k) (λ t. h k (eqb-true n (f k) t))) in omega (arith, z)) in
    omega (arith, a)

once_hit : {X : Type 0} (w n : ℕ) (f : ℕ → ℕ) (xs : List X) → ((j k : ℕ) → f j ≡ f k → j ≡ k)
    → totals (λ k (x : X). cond (n == f k) w 0) xs ≤ w
once_hit w n f [] h = omega arith
once_hit {X} w n f (x ∷ xs) h =
    by_test (n == f 0) refl (once_hit w n (λ k. f (suc k)) xs (λ j k e. let s : suc j ≡ suc k = h (suc j) (suc k) e in
    omega (arith, s))) where
      by_test : (b : Bool) → (n == f 0) ≡ b → totals (λ k (y : X). cond (n == f (suc k)) w 0) xs ≤ w
          → cond b w 0 + totals (λ k (y : X). cond (n == f (suc k)) w 0) xs ≤ w
      by_test true e more =
          let none = none_hit w n (λ k. f (suc k)) xs (λ k s. let z : 0 ≡ suc k = h 0 (suc k) (sym (eqb-true n (f 0) e) ∙ s) in
          absurd (omega (arith, z))) in omega (arith, none)
      by_test false e more = omega (arith, more)

module _ (g : Given) where
  abbrev wide : EndAt → ℕ
  wide e = window_pages g.flat g.settled e

  abbrev seen_in : ℕ → ℕ
  seen_in d = total (λ (p : MappedPage). is_seen p.shown) (mapped_pages g d)

  domain_seen : (d : ℕ) → total wide (windows_of g d) ≤ seen_in d
  domain_seen d =
      let seen : MappedPage → ℕ = λ p. is_seen p.shown in
      let size : Region → ℕ = λ r. window_size r.content r.pages in
      let rs = regions g d in let threads = flat_map (thread_regions g.settled) (threads_of g d) in
      let a = total_append seen (section_part g.images (leaves_of g.flat d)) (region_part g.settled (base g) rs) in
      let b = total_gather seen (pages_of_region g.settled (base g) rs) rs in
      let c = totals_most (λ n (r : Region). size r) (λ n r. total seen (pages_of_region g.settled (base g) rs n r)) rs
      (λ n r e. region_seen g.settled (region_start (base g) rs n) r r.content refl) in
      let d1 = totals_flat size rs in
      let f : total size (map (window_region g.flat g.settled) (windows_of g d)) ≡ total wide (windows_of g d) =
      total_map size (window_region g.flat g.settled) (windows_of g d) in
      omega (arith, a, b, c, d1, total_append size threads (map (window_region g.flat g.settled) (windows_of g d)), f)

  abbrev all_windows : List EndAt
  all_windows = gather (λ d (x : Domain). windows_of g d) g.flat.domains

  -- own frames and windows are no more than pages
  own_and_seen : length (own_part g) + total wide all_windows ≤ sum (page_counts g)
  own_and_seen =
      let own : ℕ → Domain → ℕ = λ d x. total (λ (p : MappedPage). is_own p.shown) (mapped_pages g d) in
      let seen : ℕ → Domain → ℕ = λ d x. seen_in d in
      let a = length_gather (own_frames g) g.flat.domains in
      let b = totals_same (λ d (x : Domain). length (own_frames g d x)) own g.flat.domains (λ d x e. own_is d x) in
      let c = total_gather wide (λ d (x : Domain). windows_of g d) g.flat.domains in
      let d = totals_most (λ d (x : Domain). total wide (windows_of g d)) seen g.flat.domains (λ d x e. domain_seen d) in
      let e = totals_add own seen g.flat.domains in
      let f = totals_same (λ d (x : Domain). own d x + seen d x) (λ d x. length (mapped_pages g d)) g.flat.domains
      (λ d x e. all_pages (mapped_pages g d)) in
      omega (arith, a, b, c, d, e, f, sum_ones (λ d (x : Domain). length (mapped_pages g d)) g.flat.domains) where
        own_is : (d : ℕ) (x : Domain) → length (own_frames g d x) ≡ total (λ (p : MappedPage). is_own p.shown) (mapped_pages g d)
        own_is d x = search (rules, length_gather, totals_same, own_length, totals_flat)

  -- ---- memory

  abbrev frames_of : ℕ → FlatConnection → ℕ
  frames_of k c = length (shared_frames g.settled k c) + length (register_frames g.flat g.settled k c)

  -- what a window counts towards the memory of connection k
  abbrev hit : ℕ → EndAt → ℕ
  hit k e = cond (e.connection == k) (wide e) 0

  register_most : (k : ℕ) (c : FlatConnection) (o : Option FlatEnd)
      → length (option_map_or (frames_at g.flat g.settled k c) o []) ≤ memory_pages g.settled k c
  register_most k c None = omega arith
  register_most k c (Some f) = search (rules, length-map-range_with_len)

  -- by connector
  abbrev by_connector : ℕ → FlatConnection → Connector → ℕ
  by_connector k c x = length (cond (is_shared x) (connection_frames k (memory_pages g.settled k c)) []) + length
      (option_map_or (frames_at g.flat g.settled k c) (registers_in x c.ends) [])

  -- a connection has frames only where it has memory
  frames_most : (k : ℕ) (c : FlatConnection) (n : ℕ) (x : Connector) → (HasMemory x → memory_pages g.settled k c ≤ n)
      → by_connector k c x ≤ n
  frames_most k c n SharedMemory h = grind (arith, length-map-range_with_len)
  frames_most k c n Mmio h = let l = register_most k c (first_to_end c.ends) in let m = h (inr refl) in omega (arith, l, m)
  frames_most k c n _ h = omega arith

  abbrev through : ℕ → ℕ
  through k = total (hit k) all_windows

  frames_through : (k : ℕ) (c : FlatConnection) → slice_get g.flat.connections k ≡ Some c → (HasMemory c.connector → IsSeen g k)
      → frames_of k c ≤ through k
  frames_through k c h seen = frames_most k c (through k) c.connector (λ m. by_window (seen m)) where
    by_window : IsSeen g k → memory_pages g.settled k c ≤ through k
    by_window s =
        let e = s.end in
        let i = in_gather (λ d (x : Domain). windows_of g d) e g.flat.domains s.place s.domain s.here s.window in
        let here : hit k e ≡ wide e = ap (λ b. cond b (wide e) 0) (eq-eqb e.connection k s.joins) in
        let size : wide e ≡ memory_pages g.settled k c = search (rules) in
        omega (arith, total_one (hit k) all_windows e i, here, size)

  memory_few : ((k : ℕ) (c : FlatConnection) → slice_get g.flat.connections k ≡ Some c → HasMemory c.connector → IsSeen g k)
      → length (memory_part g.flat g.settled) ≤ total wide all_windows
  memory_few seen =
      let cs = g.flat.connections in
      let a = length_append (shared_part g.flat g.settled) (register_part g.flat g.settled) in
      let c = length_gather (register_frames g.flat g.settled) cs in
      let d = totals_add (λ k (c : FlatConnection). length (shared_frames g.settled k c))
      (λ k c. length (register_frames g.flat g.settled k c)) cs in
      let e = totals_most frames_of (λ k c. through k) cs (λ k c h. frames_through k c h (seen k c h)) in
      let f = totals_swap (λ k (c : FlatConnection) (x : EndAt). hit k x) cs all_windows in
      let m = total_most (λ x. totals (λ k (c : FlatConnection). hit k x) cs) wide all_windows
      (λ x i. once_hit (wide x) x.connection (λ k. k) cs (λ j k e. e)) in
      omega (arith, a, length_gather (shared_frames g.settled) cs, c, d, e, f, m)

  pub frames_few : ((k : ℕ) (c : FlatConnection) → slice_get g.flat.connections k ≡ Some c → HasMemory c.connector → IsSeen g k)
      → length (frames g) ≤ sum (page_counts g)
  frames_few seen = omega (arith, length_append (own_part g) (memory_part g.flat g.settled), memory_few seen, own_and_seen)
