-- Each frame is mapped
use Rattle.spec_laws.proofs.Common.{AreAllMapped, Bool, CanMap, Cap, Connector, Domain, FlatConnection, FlatEnd, FrameInfo, FrameOf, IsAt, IsRegionPage, List, MappedPage, Memory, Mmio, None, Option, Own, SharedMemory, Shown, Some, Spaces, Tables}
use Rattle.spec_laws.proofs.Common.{Window, [], ap, arith, before, begins, below, cond, connection_frames, eqb-true, false, first_to, frame, frames, frames_at, from_place, in_map, in_right, inl, inr, is_first, is_shared, length, map, mapped_pages}
use Rattle.spec_laws.proofs.Common.{memory_number, memory_pages, number_shown, option_map_or, own_frame, own_frames, own_number, own_part, place, place_of, range_with_len, refl, region_page, regions, register_frame, register_frames, register_part}
use Rattle.spec_laws.proofs.Common.{registers, registers_in, registers_mmio, root_of, rules, shared_frames, shared_part, slice_get, spec_of, split_get, subst, sym, system, true, window_region, windows_of, ℕ, ◌*◌, ◌+◌, ◌<◌, ◌==◌, ◌∙◌, ◌≡◌, ◌⊎◌, IsThere}
use Rattle.cap_model.specs.declared.object.Object.TheVariants as objects
use Rattle.vspace_layout.specs.declared.owner.Owner.TheVariants.{OfConnection}
use Rattle.spec_laws.proofs.Blocks.{as_long}
use Rattle.spec_laws.proofs.Finding.{page_cap}
use Rattle.spec_laws.proofs.Owning.{own_of}
use Rattle.spec_laws.proofs.Paging.{region_in}
use Rattle.spec_laws.proofs.Rooted.{frames_from}
use Rattle.spec_laws.proofs.Showing.{MemoryPlace, in_domain, memory_at}
use Rattle.spec_laws.proofs.SlotLists.{some}
use Rattle.spec_laws.proofs.Spaces.{is_at}
use Rattle.spec_laws.proofs.Whose.{object_stands, of_frame}

shared_is : (c : Connector) → is_shared c ≡ true → c ≡ SharedMemory
shared_is SharedMemory h = refl
shared_is _ h = cc

-- what is given if a test passes
given_if : {X : Type 0} (b : Bool) (xs : List X) (j : ℕ) (x : X) → slice_get (cond b xs []) j ≡ Some x
    → (b ≡ true) × (slice_get xs j ≡ Some x)
given_if true xs j x e = (refl, e)
given_if false xs j x e = cc

-- shared frames are of shared memory
shared_of : (t : Tables) (k j : ℕ) (c : FlatConnection) → j < length (shared_frames t.settled k c) → c.connector ≡ SharedMemory
shared_of t k j c l = search (rules, shared_is)

first_is : (o : Option ℕ) (k : ℕ) → option_map_or (λ n. n == k) o false ≡ true → o ≡ Some k
first_is None k h = cc
first_is (Some n) k h = ap (λ z. Some z) (eqb-true n k h)

module _ (t : Tables) (can : CanMap t) where
  -- a frame that is mapped
  record IsMapped (f : ℕ) : Type 0 where
    domain : ℕ
    v : ℕ
    leaves : Domain
    cap : Cap
    here : slice_get t.flat.domains domain ≡ Some leaves
    at : IsAt (spec_of t) (root_of t domain) v cap
    is : cap.object ≡ frames_from t + f

  of_page : (f d n : ℕ) (x : Domain) (p : MappedPage) → slice_get t.flat.domains d ≡ Some x
      → slice_get (mapped_pages (system t) d) n ≡ Some p → number_shown (system t) d n p.shown ≡ f → IsMapped f
  of_page f d n x p h e same = record {
    domain = d;
    v = p.at;
    leaves = x;
    cap = page_cap t can d x h n p;
    here = h;
    at = is_at t can d x h p.at n p e refl;
    is = ap (λ z. frames_from t + z) same;
  }

  -- ---- own frames

  of_own : (f : ℕ) (info : FrameInfo) → slice_get (own_part (system t)) f ≡ Some info → IsMapped f
  of_own f info e =
      let s = system t in let a = from_place (own_frames s) t.flat.domains f info e in
      let b = from_place (own_of a.place) (mapped_pages s a.place) a.number info a.stands in
      by_shown a.place a.item a.here b.place b.item b.here b.item.shown refl a.number b.number b.stands a.sum b.sum where
        by_shown : (d : ℕ) (x : Domain) → slice_get t.flat.domains d ≡ Some x → (n : ℕ) (p : MappedPage)
            → slice_get (mapped_pages (system t) d) n ≡ Some p → (w : Shown) → p.shown ≡ w → (i j : ℕ)
            → slice_get (own_frame d p.shown) j ≡ Some info → f ≡ before (own_frames (system t)) t.flat.domains d + i
            → i ≡ before (own_of d) (mapped_pages (system t) d) n + j → IsMapped f
        by_shown d x h n p g (Own fill) w i j k u v =
            let long : length (own_frame d p.shown) ≡ 1 = ap (λ z. length (own_frame d z)) w in
            let number : own_number (system t) d n ≡ f = omega (arith, below (own_frame d p.shown) j info k, long, u, v) in
            of_page f d n x p h g (ap (λ z. number_shown (system t) d n z) w ∙ number)
        by_shown d x h n p g (Memory a b) w i j k u v = search (rules)

  -- ---- memory

  of_memory : (k j : ℕ) (c : FlatConnection) → slice_get t.flat.connections k ≡ Some c
      → (c.connector ≡ Mmio) ⊎ (c.connector ≡ SharedMemory) → j < memory_pages t.settled k c
      → IsMapped (memory_number (system t) k j)
  of_memory k j c h kind l =
      let s = system t in let w = can.memory.seen k c h kind in
      let r = window_region t.flat t.settled w.1 in
      let n = place_of r (regions s w.0) (in_right r _ (map (window_region t.flat t.settled) (windows_of s w.0))
      (in_map (window_region t.flat t.settled) w.1 (windows_of s w.0) w.2)) in
      let x = in_domain t w.0 n.0 r n.1 in
      let pages : r.pages ≡ memory_pages t.settled k c = search (rules) in
      let at = begins t w.0 n.0 + 4096 * j in
      let p : IsRegionPage t w.0 n.0 at j r = record { here = n.1; within = omega (arith, pages, l); at = refl } in
      let q = region_page t.settled (Window w.1) at j in
      let m = place_of q (mapped_pages s w.0) (region_in t can.settled w.0 n.0 at j r (Window w.1) p refl) in
      of_page (memory_number s k j) w.0 m.0 x.0 q x.1 m.1 (ap (λ z. memory_number s z j) w.3)

  number_is : (f g : ℕ) → IsMapped f → f ≡ g → IsMapped g
  number_is f g m e = subst IsMapped e m

  of_shared : (f m : ℕ) (info : FrameInfo) → f ≡ length (own_part (system t)) + m
      → slice_get (shared_part t.flat t.settled) m ≡ Some info → IsMapped f
  of_shared f m info u e =
      let a = from_place (shared_frames t.settled) t.flat.connections m info e in let k = a.place in
      let c = a.item in let list = connection_frames k (memory_pages t.settled k c) in
      let g = given_if (is_shared c.connector) list a.number info a.stands in
      let kind = shared_is c.connector g.0 in
      let long = as_long (λ j. frame (OfConnection k) None None) 0 (memory_pages t.settled k c) in
      let within : a.number < memory_pages t.settled k c = omega (arith, below list a.number info g.1, long) in
      by_place k a.number c a.here kind within (memory_at t can k a.number c a.here (inl kind) within) a.sum where
        by_place : (k j : ℕ) (c : FlatConnection) → slice_get t.flat.connections k ≡ Some c → c.connector ≡ SharedMemory
            → j < memory_pages t.settled k c → MemoryPlace t k j c → m ≡ before (shared_frames t.settled) t.flat.connections k + j
            → IsMapped f
        by_place k j c h kind l (MemoryPlace.at_shared n b) s = number_is (memory_number (system t) k j) f
            (of_memory k j c h (inr kind) l) (omega (arith, n, s, u))
        by_place k j c h kind l (MemoryPlace.at_device p r q n b) s = let no = sym (ap (λ z. registers_in z c.ends) kind) ∙ r in
            cc

  of_registers : (f m : ℕ) (info : FrameInfo) → f ≡ length (own_part (system t)) + (length (shared_part t.flat t.settled) + m)
      → slice_get (register_part t.flat t.settled) m ≡ Some info → IsMapped f
  of_registers f m info u e =
      let a = from_place (register_frames t.flat t.settled) t.flat.connections m info e in
      by_registers a.place a.number a.item a.here (registers a.item) refl a.stands a.sum where
        by_place : (k j : ℕ) (c : FlatConnection) (p : FlatEnd) → slice_get t.flat.connections k ≡ Some c → c.connector ≡ Mmio
            → registers c ≡ Some p → first_to t.flat p ≡ Some k → j < memory_pages t.settled k c → MemoryPlace t k j c
            → m ≡ before (register_frames t.flat t.settled) t.flat.connections k + j → IsMapped f
        by_place k j c p h kind r first l (MemoryPlace.at_shared n b) s = let no : SharedMemory ≡ Mmio =
            sym (shared_of t k j c b) ∙ kind in cc
        by_place k j c p h kind r first l (MemoryPlace.at_device x q y n b) s =
            let number : y.number ≡ k = search (rules, some) in
            let front : before (register_frames t.flat t.settled) t.flat.connections y.number ≡ before
            (register_frames t.flat t.settled) t.flat.connections k =
            ap (λ z. before (register_frames t.flat t.settled) t.flat.connections z) number in
            number_is (memory_number (system t) k j) f (of_memory k j c h (inl kind) l) (omega (arith, n, s, u, front))

        by_registers : (k j : ℕ) (c : FlatConnection) → slice_get t.flat.connections k ≡ Some c → (o : Option FlatEnd)
            → registers c ≡ o → slice_get (register_frames t.flat t.settled k c) j ≡ Some info
            → m ≡ before (register_frames t.flat t.settled) t.flat.connections k + j → IsMapped f
        by_registers k j c h None r g s = search (rules)
        by_registers k j c h (Some p) r g s =
            let list = map (register_frame t.settled k c p) (range_with_len 0 (memory_pages t.settled k c)) in
            let q = given_if (is_first t.flat k p) list j info
            (subst (λ z. slice_get z j ≡ Some info) (ap (λ o. option_map_or (frames_at t.flat t.settled k c) o []) r) g) in
            let long = as_long (register_frame t.settled k c p) 0 (memory_pages t.settled k c) in
            let within : j < memory_pages t.settled k c = omega (arith, below list j info q.1, long) in
            let kind = registers_mmio c.connector c.ends p r in
            by_place k j c p h kind r (first_is (first_to t.flat p) k q.0) within (memory_at t can k j c h (inr kind) within) s

  -- ---- all

  of_number : (f : ℕ) (info : FrameInfo) → slice_get (frames (system t)) f ≡ Some info → IsMapped f
  of_number f info e = search (rules, split_get, of_own, of_shared, of_registers)

  pub all_frames : AreAllMapped t (spec_of t) (root_of t)
  all_frames at paddr fill o =
      let x = object_stands t at (objects.Frame paddr fill) o in let w = of_frame x.what x.sort in
      let is : IsThere t (FrameOf w.0) = subst (λ z. IsThere t z) w.1 x.there in
      let m = of_number w.0 is.0 (ap (λ (z : Spaces). slice_get z.frames w.0) (sym can.spaces) ∙ is.1) in
      let there : frames_from t + w.0 ≡ place t (FrameOf w.0) = omega arith in
      (m.domain, m.v, m.leaves, m.cap, m.here, m.at, m.is ∙ there ∙ subst (λ z. place t z ≡ at) w.1 x.stands)
