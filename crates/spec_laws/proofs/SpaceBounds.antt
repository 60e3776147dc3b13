-- Where no limit on pages is passed, each space has few threads and pages, and each page shows one of the frames.
use Rattle.spec_laws.proofs.Common.{Bool, CanLay, Connector, Domain, EndAt, Flat, FlatConnection, FlatEnd, Given, IsIn, List, MappedPage, Memory, MemoryFits, Mmio, None, Option, Own, Page, Rises, SectionsStand, Settled, SharedMemory, Shown, Some}
use Rattle.spec_laws.proofs.Common.{Space, [], ap, arith, at_place, below, false, few_at, frames, frames_stand, from_ones, gather, gather_ones, get_or_from_slice_get, in_place, is_shared, is_window, leads_to, length, length_append, length_threads}
use Rattle.spec_laws.proofs.Common.{map, map_ones, mapped_pages, memory_number, memory_pages, number_shown, option_map, option_map_or, own_few, own_port, page, page_counts, place_of, position, position-Some, position_found, refl, registers}
use Rattle.spec_laws.proofs.Common.{registers_few, rising, rules, same_port, shared_few, slice_get, space, spaces_of, subst, sum, sym, thread_place, threads_of, true, window_at, window_pages, windows_of, ℕ, ◌*◌, ◌+◌, ◌<◌, ◌∙◌, ◌∷◌, ◌≡◌, ◌≤◌}
use Rattle.vspace_layout.specs.declared.spaces.Window.{Window}
use Rattle.spec_laws.proofs.Gathers.{ones_at, part_of_sum}
use Rattle.spec_laws.proofs.Windows.{IsSeen, ShowsHere, pages_show, seen, seen_pages}

-- connections to the registers of a device find the device's end, and have as many pages as each other one to them
pub record HaveRegisters (flat : Flat) (settled : Settled) : Type 0 where
  pub found : (k n : ℕ) (c : FlatConnection) (e : FlatEnd) → slice_get flat.connections k ≡ Some c → slice_get c.ends n ≡ Some e
      → c.connector ≡ Mmio → (r : FlatEnd) × (registers c ≡ Some r)
  pub same : (k n : ℕ) (c d : FlatConnection) (e f : FlatEnd) → slice_get flat.connections k ≡ Some c
      → slice_get flat.connections n ≡ Some d → registers c ≡ Some e → registers d ≡ Some f → same_port e f ≡ true
      → memory_pages settled k c ≡ memory_pages settled n d

-- ---- the first connection to registers

-- and what stands there
pub at_position : {X : Type 0} (is : X → Bool) (xs : List X) (n : ℕ) (d : X) → position is xs ≡ Some n
    → (x : X) × (slice_get xs n ≡ Some x) × (is x ≡ true)
at_position is xs n d e =
    let p = position-Some is xs n d e in let x = at_place xs n p.0 in
    (x.0, x.1, ap is (sym (get_or_from_slice_get xs n x.0 d x.1)) ∙ p.1)

pub led_to : (e : FlatEnd) (c : FlatConnection) → leads_to e c ≡ true → (f : FlatEnd) × (registers c ≡ Some f)
    × (same_port e f ≡ true)
led_to e c l = search (rules)

module _ (g : Given) (can : CanLay g) (few : sum (page_counts g) ≤ 65536) where
  pub frames_most : length (frames g) ≤ 65536 + 2 * 268435456
  frames_most = grind (arith, shared_few, registers_few, length_append, own_few)

  -- ---- each domain

  pub pages_most : (d : ℕ) (x : Domain) → slice_get g.flat.domains d ≡ Some x → length (mapped_pages g d) ≤ 65536
  pages_most d x e = let part = part_of_sum (λ n (y : Domain). length (mapped_pages g n)) g.flat.domains d x e in
      omega (arith, part, few)

  pub threads_most : (d : ℕ) (x : Domain) → slice_get g.flat.domains d ≡ Some x → length (threads_of g d) ≤ 262144
  threads_most d x e = grind (arith, length_append, few_at, length_threads)

-- ---- spaces

module _ (g : Given) where
  -- what holds of no space, and of the space of each domain
  pub space_cases : (P : Option Space → Type 0) (d : ℕ) → P None → ((x : Domain) → slice_get g.flat.domains d ≡ Some x
      → P (Some (space g d x))) → P (slice_get (spaces_of g).spaces d)
  space_cases P d none some = subst P (sym (ones_at (space g) g.flat.domains d)) (by_domain (slice_get g.flat.domains d) refl)
    where
      by_domain : (o : Option Domain) → slice_get g.flat.domains d ≡ o → P (option_map (space g d) o)
      by_domain None e = none
      by_domain (Some x) e = some x e

  abbrev pages_in : ℕ → List Page
  pages_in d = option_map_or (λ (s : Space). s.pages) (slice_get (spaces_of g).spaces d) []

  pub few_threads : CanLay g → sum (page_counts g) ≤ 65536 → (d : ℕ)
      → length (option_map_or (λ (s : Space). s.threads) (slice_get (spaces_of g).spaces d) []) ≤ 262144
  few_threads can few d =
      space_cases (λ o. length (option_map_or (λ (s : Space). s.threads) o []) ≤ 262144) d (omega arith)
      (λ x e. omega (arith, threads_most g can few d x e, gather_ones (thread_place g d) (threads_of g d)))

  pub few_pages : CanLay g → sum (page_counts g) ≤ 65536 → (d : ℕ) → length (pages_in d) ≤ 65536
  few_pages can few d =
      space_cases (λ o. length (option_map_or (λ (s : Space). s.pages) o []) ≤ 65536) d (omega arith)
      (λ x e. omega (arith, pages_most g can few d x e, gather_ones (page g d) (mapped_pages g d)))

  pub pages_rising : ((d : ℕ) → SectionsStand g d) → (d : ℕ) → Rises (map (λ (p : Page). p.vaddr) (pages_in d))
  pages_rising stand d =
      space_cases (λ o. Rises (map (λ (p : Page). p.vaddr) (option_map_or (λ (s : Space). s.pages) o []))) d tt
      (λ x e. subst Rises (sym (map_ones (λ (p : Page). p.vaddr) (page g d) (λ (p : MappedPage). p.at) (λ n p. refl)
      (mapped_pages g d))) (rising g d (stand d)).rise)

  pub few_window_pages : MemoryFits g.flat g.settled → (d : ℕ) (w : Window)
      → IsIn w (option_map_or (λ (s : Space). s.windows) (slice_get (spaces_of g).spaces d) []) → w.pages ≤ 65536
  few_window_pages fits d w i =
      space_cases (λ o. IsIn w (option_map_or (λ (s : Space). s.windows) o []) → w.pages ≤ 65536) d (λ j. absurd j)
      (λ x e j. let n = place_of w (gather (λ n q. window_at g d n q ∷ []) (windows_of g d)) j in
      let q = from_ones (window_at g d) (windows_of g d) n.0 w n.1 in
      subst (λ (z : Window). z.pages ≤ 65536) q.2 (by_connection q.0 (slice_get g.flat.connections q.0.connection) refl)) i where
        by_connection : (e : EndAt) (o : Option FlatConnection) → slice_get g.flat.connections e.connection ≡ o
            → option_map_or (memory_pages g.settled e.connection) o 0 ≤ 65536
        by_connection e None at = omega arith
        by_connection e (Some c) at = fits e.connection c at

  -- ---- frames of pages

  module _ (have : HaveRegisters g.flat g.settled) where
    -- page j of the registers to which a connection leads
    register_below : (k j : ℕ) (c : FlatConnection) (r : FlatEnd) → slice_get g.flat.connections k ≡ Some c → registers c ≡ Some r
        → j < memory_pages g.settled k c → memory_number g k j < length (frames g)
    register_below k j c r at has l =
        let led : leads_to r c ≡ true = ap (λ o. option_map_or (same_port r) o false) has ∙ own_port r in
        let first = position_found (leads_to r) g.flat.connections k c at led in
        let d = at_position (leads_to r) g.flat.connections first.0 c first.1 in let f = led_to r d.0 d.2 in
        below (frames g) (memory_number g k j) _ ((frames_stand g).registers k j first.0 c d.0 r f.0 at has first.1 d.1 f.1
        (omega (arith, l, have.same k first.0 c d.0 r f.0 at d.1 has f.1 f.2)))

    memory_below : (e : EndAt) → IsSeen g e → (j : ℕ) → j < window_pages g.flat g.settled e
        → memory_number g e.connection j < length (frames g)
    memory_below e s j l = by_connector s.connection.connector refl s.window (subst (λ n. j < n) (seen_pages g e s) l) where
      by_connector : (c : Connector) → s.connection.connector ≡ c → is_window c s.end.role ≡ true
          → j < memory_pages g.settled e.connection s.connection → memory_number g e.connection j < length (frames g)
      by_connector SharedMemory is w l = below (frames g) (memory_number g e.connection j) _
          ((frames_stand g).shared e.connection j s.connection s.there (ap is_shared is) l)
      by_connector Mmio is w l = let r = have.found e.connection e.end s.connection s.end s.there s.joined is in
          register_below e.connection j s.connection r.0 s.there r.1 l
      by_connector _ is w l = cc

    number_below : (d n : ℕ) (x : Domain) (p : MappedPage) → slice_get g.flat.domains d ≡ Some x
        → slice_get (mapped_pages g d) n ≡ Some p → number_shown g d n p.shown < length (frames g)
    number_below d n x p e at = by_shown p.shown refl (pages_show g d p (in_place p (mapped_pages g d) n at)) where
      by_shown : (s : Shown) → p.shown ≡ s → ShowsHere g d s → number_shown g d n p.shown < length (frames g)
      by_shown (Own fill) is w = below (frames g) (number_shown g d n p.shown) _
          ((frames_stand g).own d n p fill at is (below g.flat.domains d x e))
      by_shown (Memory k j) is w =
          subst (λ z. number_shown g d n z < length (frames g)) (sym is)
          (subst (λ z. memory_number g z j < length (frames g)) w.2 (memory_below w.0 (seen g d w.0 w.1) j w.3))

    pub frames_there : (d : ℕ) (p : Page) → IsIn p (pages_in d) → p.frame < length (frames g)
    frames_there d p i =
        space_cases (λ o. IsIn p (option_map_or (λ (s : Space). s.pages) o []) → p.frame < length (frames g)) d (λ j. absurd j)
        (λ x e j. let n = place_of p (gather (λ n q. page g d n q ∷ []) (mapped_pages g d)) j in
        let q = from_ones (page g d) (mapped_pages g d) n.0 p n.1 in subst (λ (z : Page). z.frame < length (frames g)) q.2
        (number_below d n.0 x q.0 e q.1)) i
