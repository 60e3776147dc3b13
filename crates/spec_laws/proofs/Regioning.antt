-- The regions of spaces, and the lines of windows
use Rattle.spec_laws.proofs.Common.{Bool, Buffer, CanMap, Cap, Domain, EndAt, FlatConnection, FrameOf, IsAt, IsIn, IsRegionPage, LeafSetting, List, MapLine, MappedPage, Option, OwnLock, Page, RW, Region, Settled, SlotUse}
use Rattle.spec_laws.proofs.Common.{Some, Space, Spaces, Tables, Tcb, ThreadLine, WindowLine, [], ap, arith, begins, cap, domain_lines, domain_windows, eq-eqb, eqb-true, find, flat_map}
use Rattle.spec_laws.proofs.Common.{frame_at, from_ones, gather, get_map, get_ones, in_gather, in_place, in_right, inl, length, map, map_lines, mapped_pages, memory_pages, number_shown, object_at}
use Rattle.spec_laws.proofs.Common.{option_map_or, page, pages_at, place, place_of, refl, region, region_page, root_of, slice_get, slot_line, slot_lines, space, spec_of, subst, suc, sym, system, tcb, thread_lines, thread_place}
use Rattle.spec_laws.proofs.Common.{rules, thread_regions, threads_of, true, use_cap, window_at, window_line, window_lines, window_region, windows_at, windows_of, zero, ℕ, ◌%◌, ◌*◌, ◌++◌, ◌+◌, ◌/◌, ◌==◌, ◌∙◌, ◌∷◌, ◌≡◌}
use Rattle.std.specs.Prelude.{option_map}
use Rattle.cap_model.specs.declared.object.Object.TheVariants as objects
use Rattle.system_spec.specs.declared.part.What.TheVariants.{ThreadOf as OfThread}
use Rattle.vspace_layout.specs.declared.spaces.Window.{Window}
use Rattle.vspace_layout.specs.declared.thread.ThreadOf.{ThreadOf}
use Rattle.spec_laws.specs.Regioned.{AreRegions, HasRegions, IsWindowLine, SaysWindow}
use Rattle.spec_laws.proofs.Finding.{pages_are, rise}
use Rattle.spec_laws.proofs.MapLines.{by_line}
use Rattle.spec_laws.proofs.Paging.{has_domain, region_in}
use Rattle.spec_laws.proofs.Windows.{seen}
use Rattle.spec_laws.proofs.Rooted.{frames_from}
use Rattle.spec_laws.proofs.SlotLists.{some}
use Rattle.spec_laws.proofs.Spaces.{is_at, rises_tell}
use Rattle.spec_laws.proofs.Threading.{one_line, thread_domain}
use Rattle.spec_laws.proofs.Threads.{has_thread, line_to, thread_object}

-- ---- what is found by a test that single alone passes

find_is : {X : Type 0} (p : X → Bool) (xs : List X) (n : ℕ) (x : X) → slice_get xs n ≡ Some x → p x ≡ true
    → ((m : ℕ) (y : X) → slice_get xs m ≡ Some y → p y ≡ true → y ≡ x) → find p xs ≡ Some x
find_is p [] n x e h u = cc
find_is {X} p (z ∷ zs) zero x e h u = grind (arith)
find_is {X} p (z ∷ zs) (suc n) x e h u =
    grind (arith, u 0 z refl, find_is p zs n x e h (λ m y g k. u (suc m) y g k))

-- thread i has the regions 2 i and 2 i + 1
buffer_at : (settled : Settled) (ts : List ThreadOf) (more : List Region) (i : ℕ) (x : ThreadOf) → slice_get ts i ≡ Some x
    → slice_get (flat_map (thread_regions settled) ts ++ more) (2 * i + 1) ≡ Some (region Buffer 1)
buffer_at settled [] more i x e = cc
buffer_at settled (y ∷ ts) more zero x e =
    let n : 2 * zero + 1 ≡ 1 = omega arith in ap (λ z. slice_get (flat_map (thread_regions settled) (y ∷ ts) ++ more) z) n
buffer_at settled (y ∷ ts) more (suc i) x e =
    let n : 2 * suc i + 1 ≡ suc (suc (2 * i + 1)) = omega arith in
    ap (λ z. slice_get (flat_map (thread_regions settled) (y ∷ ts) ++ more) z) n ∙ buffer_at settled ts more i x e

whole_stack : (n : ℕ) → n % 4096 ≡ 0 → 4096 * (n / 4096) ≡ n
whole_stack n h = omega (arith, h)

same_thread : (a b : Tcb) (o : Option _) → o ≡ Some (objects.Thread a) → o ≡ Some (objects.Thread b) → a ≡ b
same_thread a b o e f = cc

module _ (t : Tables) (can : CanMap t) where
  window_domain : (d i : ℕ) (y : EndAt) → slice_get (windows_of (system t) d) i ≡ Some y
      → (x : Domain) × (slice_get t.flat.domains d ≡ Some x)
  window_domain d i y e = search (rules, has_domain)

  -- ---- the buffer of a thread

  module _ (d i : ℕ) (x : Domain) (y : ThreadOf) (h : slice_get t.flat.domains d ≡ Some x)
      (e : slice_get (threads_of (system t) d) i ≡ Some y) where
    abbrev start : ℕ
    start = begins t d (2 * i + 1)

    abbrev q : MappedPage
    q = region_page t.settled Buffer (start + 4096 * 0) 0

    there : (n : ℕ) × (slice_get (mapped_pages (system t) d) n ≡ Some q)
    there =
        let b = buffer_at t.settled (threads_of (system t) d) (map (window_region t.flat t.settled) (windows_of (system t) d)) i y
        e in
        let p : IsRegionPage t d (2 * i + 1) (start + 4096 * 0) 0 (region Buffer 1) = search (rules) in
        place_of q (mapped_pages (system t) d) (region_in t can.settled d (2 * i + 1) (start + 4096 * 0) 0 (region Buffer 1)
        Buffer p refl)

    begin : start + 4096 * 0 ≡ start
    begin = omega arith

    abbrev laid : ℕ → MappedPage → Page
    laid n p = page (system t) d n p

    page_there : slice_get (pages_at t d) there.0 ≡ Some (laid there.0 q)
    page_there = ap (λ z. slice_get z there.0) (pages_are t can d x h) ∙ get_ones laid (mapped_pages (system t) d)
        there.0 q there.1

    one_page : (m : ℕ) (p : Page) → slice_get (pages_at t d) m ≡ Some p → (p.vaddr == start) ≡ true → p ≡ laid there.0 q
    one_page m p g k =
        let u = from_ones laid (mapped_pages (system t) d) m p (ap (λ z. slice_get z m) (sym (pages_are t can d x h)) ∙ g) in
        let pages = mapped_pages (system t) d in
        let at : u.0.at ≡ start + 4096 * 0 = ap (λ (z : Page). z.vaddr) u.2 ∙ eqb-true p.vaddr start k ∙ sym begin in
        let a = get_map (λ (z : MappedPage). z.at) pages m u.0 u.1 in
        let b = get_map (λ (z : MappedPage). z.at) pages there.0 q there.1 in
        let number : m ≡ there.0 = search (rules, rises_tell, there, rise) in
        let shown : u.0 ≡ q = some (slice_get pages there.0) u.0 q (ap (λ z. slice_get pages z) (sym number) ∙ u.1) there.1 in
        sym u.2 ∙ ap (λ z. laid z u.0) number ∙ ap (λ z. laid there.0 z) shown

    frame_is : frame_at (pages_at t d) start ≡ Some (number_shown (system t) d there.0 q.shown)
    frame_is = ap (λ o. option_map (λ (z : Page). z.frame) o) (find_is (λ (z : Page). z.vaddr == start) (pages_at t d) there.0
        (laid there.0 q) page_there (eq-eqb (start + 4096 * 0) start begin) one_page)

    pub regions_hold : HasRegions t (spec_of t) (root_of t d) d i y (tcb t d (thread_place (system t) d i y))
    regions_hold =
        let g = can.grouped.listed d y.leaf x h (has_thread t can d x h y (in_place y (threads_of (system t) d) i e)).1 in
        let s = can.settled.leaf y.leaf g.0 g.1 in let f = number_shown (system t) d there.0 q.shown in
        let same : frames_from t + f ≡ place t (FrameOf f) = omega arith in
        let P : Cap → Type 0 = λ z. IsAt (spec_of t) (root_of t d) start z in
        record {
          setting = s.0;
          settled = s.1;
          stack_ends = ap (λ o. begins t d (2 * i) + 4096 * option_map_or (λ (z : LeafSetting). z.stack / 4096) o 0) s.1
              ∙ ap (λ z. begins t d (2 * i) + z) (whole_stack s.0.stack (can.settled.stack y.leaf s.0 s.1));
          buffer_at = refl;
          cap = cap (place t (FrameOf f)) RW 0;
          buffer = ap (λ o. option_map (λ z. cap (place t (FrameOf z)) RW 0) o) frame_is;
          rights = refl;
          mapped = subst P (ap (λ z. cap z RW 0) same) (is_at t can d x h start there.0 q there.1 (ap (λ z. z / 4096) begin));
        }

  of_threads : (d i at : ℕ) (y : ThreadOf) (c : Tcb) → slice_get (threads_of (system t) d) i ≡ Some y
      → IsIn (ThreadLine at y.leaf y.end) (map_lines t) → object_at (spec_of t) at ≡ Some (objects.Thread c)
      → HasRegions t (spec_of t) (root_of t d) d i y c
  of_threads d i at y c e line o =
      let x = thread_domain t can d i y e in
      let here = one_line t can at (place t (OfThread d i)) y.leaf y.end line (line_to t can d i x.0 y x.1 e) in
      let made = tcb t d (thread_place (system t) d i y) in
      subst (HasRegions t (spec_of t) (root_of t d) d i y) (same_thread made c (object_at (spec_of t) at)
      (ap (λ z. object_at (spec_of t) z) here ∙ thread_object t can d i x.0 y x.1 e) o) (regions_hold d i x.0 y x.1 e)

  -- ---- windows

  windows_are : (d : ℕ) (x : Domain) → slice_get t.flat.domains d ≡ Some x
      → windows_at t d ≡ gather (λ j e. window_at (system t) d j e ∷ []) (windows_of (system t) d)
  windows_are d x h =
      let f : ℕ → Domain → Space = λ n z. space (system t) n z in
      ap (λ (z : Spaces). option_map_or (λ (w : Space). w.windows) (slice_get z.spaces d) []) can.spaces
      ∙ ap (λ o. option_map_or (λ (w : Space). w.windows) o []) (get_ones f t.flat.domains d x h)

  -- what the line of a window says, by its end's connection
  said : (d j : ℕ) (e : EndAt) (c : FlatConnection) → slice_get t.flat.connections e.connection ≡ Some c
      → window_line (window_at (system t) d j e) ≡ WindowLine e.connection e.end
      (begins t d (2 * length (threads_of (system t) d) + j)) (4096 * memory_pages t.settled e.connection c)
  said d j e c h = ap (λ o. WindowLine e.connection e.end (begins t d (2 * length (threads_of (system t) d) + j))
      (4096 * option_map_or (memory_pages t.settled e.connection) o 0)) h

  of_window : (d : ℕ) (x : Domain) → slice_get t.flat.domains d ≡ Some x → (n : ℕ) (w : Window)
      → slice_get (windows_at t d) n ≡ Some w → IsWindowLine t (window_line w)
  of_window d x h n w s =
      let made : ℕ → EndAt → Window = λ n z. window_at (system t) d n z in
      let e = from_ones made (windows_of (system t) d) n w (ap (λ z. slice_get z n) (sym (windows_are d x h)) ∙ s) in
      let v = seen (system t) d e.0 (in_place e.0 (windows_of (system t) d) n e.1) in
      search (rules, said)

  no_slot : (o n : ℕ) (u : SlotUse) → SaysWindow (slot_line o n u) → ⊥
  no_slot o n (OwnLock leaf m) s = s
  no_slot o n _ s = s

  only : (line : MapLine) → IsIn line (map_lines t) → SaysWindow line → IsWindowLine t line
  only = by_line t (λ line. SaysWindow line → IsWindowLine t line) (λ d x h s. absurd s) (λ d x h n y e s. absurd s)
      (λ d x h n u e s. absurd (no_slot (use_cap t d n u).object n u s)) (λ d x h n w e s. of_window d x h n w e)

  every : (line : MapLine) → IsWindowLine t line → IsIn line (map_lines t)
  every line w =
      let d = w.domain in let x = window_domain d w.number w.e w.here in
      let made = window_at (system t) d w.number w.e in
      let k : ℕ → EndAt → Window = λ n z. window_at (system t) d n z in
      let at = ap (λ z. slice_get z w.number) (windows_are d x.0 x.1) ∙ get_ones k (windows_of (system t) d) w.number
      w.e w.here in
      let f : ℕ → Domain → List MapLine = λ d x. domain_windows t d in
      let g : ℕ → Window → List MapLine = λ n w. window_line w ∷ [] in
      let said_is = said d w.number w.e w.connection w.of_connection ∙ sym w.is in
      in_right line (domain_lines t) (thread_lines t ++ (slot_lines t ++ window_lines t))
      (in_right line (thread_lines t) (slot_lines t ++ window_lines t) (in_right line (slot_lines t) (window_lines t)
      (in_gather f line t.flat.domains d x.0 x.1 (in_gather g line (windows_at t d) w.number made at (inl said_is)))))

  pub regions_are : AreRegions t (spec_of t) (root_of t) (map_lines t)
  regions_are = search (rules, of_threads, only, every)
