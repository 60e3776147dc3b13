-- The frames that windows show, and all others
use Rattle.spec_laws.proofs.Common.{AreMemoryFrames, CanMap, Domain, Flat, FlatConnection, FlatEnd, Frame, FrameInfo, FrameOf, List, Mmio, None, OneMemory, Option, Region, SharedMemory, ShowsMemory, Some, Spaces, Tables, Window, []}
use Rattle.spec_laws.proofs.Common.{ap, arith, before, begins, cond, connection_frames, eq-eqb, false, first_to, frame, frame_object, in_place, inl, inr, is_shared, length, mapped_pages, memory_before, memory_number}
use Rattle.spec_laws.proofs.Common.{memory_paddr, memory_pages, object_at, option_map_or, own_part, place, place_of, position, region_page, regions, register_frames, registers, registers_before}
use Rattle.spec_laws.proofs.Common.{root_of, rules, shared_frames, shared_part, slice_get, spec_of, subst, sym, system, ℕ, ◌&&◌, ◌*◌, ◌+◌, ◌/◌, ◌<◌, ◌==◌, ◌∙◌, ◌≡◌, ◌⊎◌}
use Rattle.vspace_layout.specs.declared.owner.Owner.TheVariants.{OfConnection}
use Rattle.spec_laws.proofs.Blocks.{apart, as_long, inside}
use Rattle.spec_laws.proofs.Framing.{FirstTo, IsMemoryFrame, first_is, frame_there, memory_frame, memory_of, one_device, registers_there}
use Rattle.spec_laws.proofs.Paging.{has_domain, region_in}
use Rattle.spec_laws.proofs.Rooted.{frames_from}
use Rattle.spec_laws.proofs.SlotLists.{some}
use Rattle.spec_laws.proofs.Spaces.{cap_is}

-- a region is one of a domain that there is
pub in_domain : (t : Tables) (d n : ℕ) (r : Region) → slice_get (regions (system t) d) n ≡ Some r
    → (x : Domain) × (slice_get t.flat.domains d ≡ Some x)
in_domain t d n r e = search (rules, has_domain)

-- ---- where the frames of memory stand

abbrev at_port : Flat → ℕ → ℕ → Option ℕ
at_port flat l m = position (λ (c : FlatConnection). option_map_or (λ (f : FlatEnd). f.leaf == l && f.member == m) (registers c)
    false) flat.connections

pub first_same : (flat : Flat) (e f : FlatEnd) → f.leaf ≡ e.leaf → f.member ≡ e.member → first_to flat f ≡ first_to flat e
first_same flat e f p q = ap (λ z. at_port flat z f.member) p ∙ ap (λ z. at_port flat e.leaf z) q

module _ (t : Tables) where
  abbrev own : ℕ
  own = length (own_part (system t))

  abbrev cs : List FlatConnection
  cs = t.flat.connections

  abbrev shared_by : ℕ → FlatConnection → List FrameInfo
  shared_by = shared_frames t.settled

  abbrev registers_by : ℕ → FlatConnection → List FrameInfo
  registers_by = register_frames t.flat t.settled

  pub data MemoryPlace (k j : ℕ) (c : FlatConnection) : Type 0 where
    at_shared : memory_number (system t) k j ≡ own + before shared_by cs k + j → j < length (shared_by k c) → MemoryPlace k j c
    at_device : (e : FlatEnd) → registers c ≡ Some e → (f : FirstTo t e)
        → memory_number (system t) k j ≡ own + (length (shared_part t.flat t.settled) + before registers_by cs f.number) + j
        → j < length (registers_by f.number f.connection) → MemoryPlace k j c

  number_at : (k j : ℕ) (c : FlatConnection) → slice_get cs k ≡ Some c → memory_number (system t) k j ≡ own + memory_before t.flat
      t.settled k c + j
  number_at k j c h = ap (λ o. option_map_or (λ (z : FlatConnection). own + memory_before t.flat t.settled k z) o 0 + j) h

  shared_long : (k : ℕ) (c : FlatConnection) → c.connector ≡ SharedMemory → length (shared_by k c) ≡ memory_pages t.settled k c
  shared_long k c m = ap (λ z. length (cond (is_shared z) (connection_frames k (memory_pages t.settled k c)) [])) m
      ∙ as_long (λ j. frame (OfConnection k) None None) 0 (memory_pages t.settled k c)

  registers_long : (e : FlatEnd) (f : FirstTo t e) → length (registers_by f.number f.connection) ≡ memory_pages t.settled
      f.number f.connection
  registers_long e f = search (rules, first_same, eq-eqb, as_long)

  pub memory_at : CanMap t → (k j : ℕ) (c : FlatConnection) → slice_get cs k ≡ Some c → (c.connector ≡ SharedMemory)
      ⊎ (c.connector ≡ Mmio) → j < memory_pages t.settled k c → MemoryPlace k j c
  memory_at can k j c h (inl m) l = search (rules, number_at, shared_long)
  memory_at can k j c h (inr m) l =
      let r = registers_there t k j c m l in let f = first_is t k c r.0 h r.1 in
      let pages = can.memory.pages k f.number c f.connection h f.here (one_device t c r.0 r.1 f) in
      let front : memory_before t.flat t.settled k c ≡ length (shared_part t.flat t.settled) + before registers_by cs f.number =
      search (rules) in
      at_device r.0 r.1 f (number_at k j c h ∙ ap (λ z. own + z + j) front) (omega (arith, registers_long r.0 f, pages, l))

  one_memory : (k l i j : ℕ) (c e : FlatConnection) → slice_get cs k ≡ Some c → slice_get cs l ≡ Some e → MemoryPlace k i c
      → MemoryPlace l j e → memory_number (system t) k i ≡ memory_number (system t) l j → OneMemory k c l e × (i ≡ j)
  one_memory k l i j c e h g (at_shared n a) (at_shared m b) same =
      let u = apart shared_by cs k l i j c e h g a b (omega (arith, n, m, same)) in (inl u.0, u.1)
  one_memory k l i j c e h g (at_shared n a) (at_device p r f m b) same = let u = inside shared_by cs k c h in
      absurd (omega (arith, n, a, m, u, same))
  one_memory k l i j c e h g (at_device p r f n a) (at_shared m b) same = let u = inside shared_by cs l e g in
      absurd (omega (arith, n, m, b, u, same))
  one_memory k l i j c e h g (at_device p r f n a) (at_device q v w m b) same =
      let u = apart registers_by cs f.number w.number i j f.connection w.connection f.here w.here a b
      (omega (arith, n, m, same)) in
      let conn : f.connection ≡ w.connection = search (rules, some) in
      let end : f.end ≡ w.end = some (registers w.connection) f.end w.end (ap registers (sym conn) ∙ f.leads) w.leads in
      let leaf : p.leaf ≡ q.leaf = sym f.leaf ∙ ap (λ (z : FlatEnd). z.leaf) end ∙ w.leaf in
      let member : p.member ≡ q.member = sym f.member ∙ ap (λ (z : FlatEnd). z.member) end ∙ w.member in
      (inr (record { port = p; first = r; other = q; second = v; leaf = leaf; member = member }), u.1)

  before_device : (k : ℕ) (c : FlatConnection) (e : FlatEnd) → registers c ≡ Some e
      → memory_before t.flat t.settled k c ≡ registers_before t.flat t.settled e
  before_device k c e r = ap (λ o. option_map_or (registers_before t.flat t.settled) o (before shared_by cs k)) r

  same_number : (k l i j : ℕ) (c e : FlatConnection) → slice_get cs k ≡ Some c → slice_get cs l ≡ Some e → OneMemory k c l e
      → i ≡ j → memory_number (system t) k i ≡ memory_number (system t) l j
  same_number k l i j c e h g (inl p) q = ap (λ z. memory_number (system t) z i) p ∙ ap (λ z. memory_number (system t) l z) q
  same_number k l i j c e h g (inr o) q = search (rules, before_device, first_same, number_at)

-- ---- what a window shows

pub record MemoryShown (t : Tables) (d k j place : ℕ) (c : FlatConnection) : Type 0 where
  pub domain : Domain
  pub here : slice_get t.flat.domains d ≡ Some domain
  pub kind : (c.connector ≡ SharedMemory) ⊎ (c.connector ≡ Mmio)
  pub within : j < memory_pages t.settled k c
  pub is : place ≡ frames_from t + memory_number (system t) k j

module _ (t : Tables) (can : CanMap t) where
  pub memory_shown : (d k j at : ℕ) (c : FlatConnection) → slice_get t.flat.connections k ≡ Some c
      → ShowsMemory t (spec_of t) (root_of t) d k j at → MemoryShown t d k j at c
  memory_shown d k j at c h w =
      let x = in_domain t d w.number w.region w.page.here in
      let m = memory_of t d w.region w.e (in_place w.region (regions (system t) d) w.number w.page.here) w.content in
      let P : ℕ → Type 0 = λ z. slice_get t.flat.connections z ≡ Some m.connection in
      let same : m.connection ≡ c = some (slice_get t.flat.connections k) m.connection c (subst P w.of_connection m.here) h in
      let Q : FlatConnection → Type 0 = λ z. (z.connector ≡ SharedMemory) ⊎ (z.connector ≡ Mmio) in
      let pages : w.region.pages ≡ memory_pages t.settled k c = search (rules) in
      let q = region_page t.settled (Window w.e) (begins t d w.number + 4096 * j) j in
      let n = place_of q (mapped_pages (system t) d) (region_in t can.settled d w.number w.v j w.region (Window w.e) w.page
      w.content) in
      let cap = cap_is t can d x.0 x.1 w.v n.0 q w.cap n.1 (ap (λ z. z / 4096) (sym w.page.at)) w.mapped in
      search (rules, frames_from)

  pub memory_object : (d k j at : ℕ) (c : FlatConnection) → slice_get t.flat.connections k ≡ Some c → MemoryShown t d k j at c
      → (info : FrameInfo) × (object_at (spec_of t) at ≡ Some (frame_object info)) × IsMemoryFrame t k j c info
  memory_object d k j at c h m =
      let g = memory_frame t can k j c h m.kind m.within in let f = memory_number (system t) k j in
      let there : place t (FrameOf f) ≡ frames_from t + f = omega arith in (
        g.0,
        ap (λ z. object_at (spec_of t) z) (m.is ∙ sym there)
            ∙ frame_there t f g.0 (ap (λ (z : Spaces). slice_get z.frames f) can.spaces ∙ g.1),
        g.2,
      )

  registers_are : (d k j at : ℕ) (c : FlatConnection) → slice_get t.flat.connections k ≡ Some c → c.connector ≡ Mmio
      → ShowsMemory t (spec_of t) (root_of t) d k j at
      → object_at (spec_of t) at ≡ Some (Frame (Some (memory_paddr t.settled k c + 4096 * j)) None)
  registers_are d k j at c h m w = let g = memory_object d k j at c h (memory_shown d k j at c h w) in by_frame g.0 g.1 g.2 where
    by_frame : (info : FrameInfo) → object_at (spec_of t) at ≡ Some (frame_object info) → IsMemoryFrame t k j c info
        → object_at (spec_of t) at ≡ Some (Frame (Some (memory_paddr t.settled k c + 4096 * j)) None)
    by_frame info o (IsMemoryFrame.of_shared e f) = let g : SharedMemory ≡ Mmio = sym e ∙ m in cc
    by_frame info o (IsMemoryFrame.of_device e n r f) = o ∙ ap (λ z. Some (frame_object z)) f

  plain_are : (d k j at : ℕ) (c : FlatConnection) → slice_get t.flat.connections k ≡ Some c → c.connector ≡ SharedMemory
      → ShowsMemory t (spec_of t) (root_of t) d k j at → object_at (spec_of t) at ≡ Some (Frame None None)
  plain_are d k j at c h m w = let g = memory_object d k j at c h (memory_shown d k j at c h w) in by_frame g.0 g.1 g.2 where
    by_frame : (info : FrameInfo) → object_at (spec_of t) at ≡ Some (frame_object info) → IsMemoryFrame t k j c info
        → object_at (spec_of t) at ≡ Some (Frame None None)
    by_frame info o (IsMemoryFrame.of_shared e f) = o ∙ ap (λ z. Some (frame_object z)) f
    by_frame info o (IsMemoryFrame.of_device e n r f) = let g : Mmio ≡ SharedMemory = sym n ∙ m in cc

  pub memory_frames : AreMemoryFrames t (spec_of t) (root_of t)
  memory_frames = record {
    shared = λ d e k l i j m n c f h g v w. (
        let a = memory_shown d k i m c h v in let b = memory_shown e l j n f g w in
        let q = b.is in (
          λ same. one_memory t k l i j c f h g (memory_at t can k i c h a.kind a.within) (memory_at t can l j f g b.kind b.within)
              (omega (arith, a.is, q, same)),
          λ one. let u = same_number t k l i j c f h g one.0 one.1 in a.is ∙ ap (λ z. frames_from t + z) u ∙ sym q,
        ));
    registers = registers_are;
    plain = plain_are;
  }
