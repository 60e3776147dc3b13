-- The frame of each page that is mapped
use Rattle.spec_laws.proofs.Common.{Bool, CanMap, Connector, Content, Domain, EndAt, EndSetting, Endpoint, FlatConnection, FlatEnd, FrameInfo, FrameOf, IsIn, IsRegionPage, List, MappedPage, Memory, Mmio, None, OneDevice, Option, Own, Region, Role}
use Rattle.spec_laws.proofs.Common.{SharedMemory, Shown, Some, Spaces, Tables, Window, [], and_parts, ap, arith, base, begins, below, below_count, eqb-true, false, first_to, frame, frame_object, frames, frames_stand, from_gather, from_map, get_or}
use Rattle.spec_laws.proofs.Common.{in_append, in_place, inl, inr, is_shared, is_window, leads_to, leaves_of, mapped_pages, memory_number, memory_paddr, memory_pages, number_shown, object_at, option_map_or, own_port, page_of, pages_of_region, place}
use Rattle.spec_laws.proofs.Common.{position, position-Some, position_found, range_with_len, refl, region_page, region_part, regions, registers, same_port, section_page, section_pages, section_part, slice_get, slice_get-get_or, spec_of, subst, sym}
use Rattle.spec_laws.proofs.Common.{rules, system, true, ℕ, ◌*◌, ◌+◌, ◌/◌, ◌<◌, ◌==◌, ◌∙◌, ◌∷◌, ◌≡◌, ◌⊎◌, object_there}
use Rattle.system_spec.specs.declared.series.Series.TheVariants as series
use Rattle.vspace_layout.specs.declared.owner.Owner.TheVariants.{OfConnection, OfDomain, OfLeaf}
use Rattle.spec_laws.proofs.Paging.{window_of}
use Rattle.spec_laws.proofs.Windows.{seen, seen_pages}

-- ---- frames as objects

pub frame_there : (t : Tables) (f : ℕ) (info : FrameInfo) → slice_get t.spaces.frames f ≡ Some info
    → object_at (spec_of t) (place t (FrameOf f)) ≡ Some (frame_object info)
frame_there t f info e = object_there t (FrameOf f) (info, e) ∙ ap (λ o. Some (option_map_or frame_object o Endpoint)) e

-- ---- the first connection to registers

-- the first connection to the registers of an end, which leads to the same dataport
pub record FirstTo (t : Tables) (e : FlatEnd) : Type 0 where
  pub number : ℕ
  pub first : first_to t.flat e ≡ Some number
  pub connection : FlatConnection
  pub here : slice_get t.flat.connections number ≡ Some connection
  pub end : FlatEnd
  pub leads : registers connection ≡ Some end
  pub leaf : end.leaf ≡ e.leaf
  pub member : end.member ≡ e.member

of_port : (o : Option FlatEnd) (e : FlatEnd) → option_map_or (same_port e) o false ≡ true → (f : FlatEnd) × (o ≡ Some f)
    × (f.leaf ≡ e.leaf) × (f.member ≡ e.member)
of_port None e h = cc
of_port (Some f) e h = let q = and_parts (f.leaf == e.leaf) (f.member == e.member) h in
    (f, refl, eqb-true f.leaf e.leaf q.0, eqb-true f.member e.member q.1)

pub first_is : (t : Tables) (k : ℕ) (c : FlatConnection) (e : FlatEnd) → slice_get t.flat.connections k ≡ Some c
    → registers c ≡ Some e → FirstTo t e
first_is t k c e h r =
    let cs = t.flat.connections in
    let hit = position_found (leads_to e) cs k c h (ap (λ o. option_map_or (same_port e) o false) r ∙ own_port e) in
    let s = position-Some (leads_to e) cs hit.0 c hit.1 in let d = get_or cs hit.0 c in
    let p = of_port (registers d) e s.1 in
    search (rules, slice_get-get_or)

-- a connection and the first to its registers are of one device
pub one_device : (t : Tables) (c : FlatConnection) (e : FlatEnd) → registers c ≡ Some e → (f : FirstTo t e)
    → OneDevice c f.connection
one_device t c e r f = record { port = e; first = r; other = f.end; second = f.leads; leaf = sym f.leaf; member = sym f.member }

-- ---- memory of connections

pub has_memory : (c : Connector) (r : Role) → is_window c r ≡ true → (c ≡ SharedMemory) ⊎ (c ≡ Mmio)
has_memory SharedMemory r h = inl refl
has_memory Mmio r h = inr refl
has_memory _ r h = cc

place_get : {X : Type 0} (p : X → Bool) (xs : List X) (n : ℕ) → position p xs ≡ Some n → (x : X) × (slice_get xs n ≡ Some x)
place_get p [] n e = cc
place_get p (x ∷ xs) n e = let s = position-Some p (x ∷ xs) n x e in (get_or (x ∷ xs) n x, slice_get-get_or (x ∷ xs) n x s.0)

abbrev pages_by : Option EndSetting → ℕ
pages_by o = option_map_or (λ (s : EndSetting). s.bytes / 4096) o 0

-- where registers have a page, there is their end
pub registers_there : (t : Tables) (k j : ℕ) (c : FlatConnection) → c.connector ≡ Mmio → j < memory_pages t.settled k c
    → (e : FlatEnd) × (registers c ≡ Some e)
registers_there t k j c m l = search (rules, place_get)

-- the frame of page j of the memory of connection k
pub data IsMemoryFrame (t : Tables) (k j : ℕ) (c : FlatConnection) (info : FrameInfo) : Type 0 where
  of_shared : c.connector ≡ SharedMemory → info ≡ frame (OfConnection k) None None → IsMemoryFrame t k j c info
  of_device : (e : FlatEnd) → c.connector ≡ Mmio → registers c ≡ Some e
      → info ≡ frame (OfLeaf e.leaf) (Some (memory_paddr t.settled k c + 4096 * j)) None → IsMemoryFrame t k j c info

pub memory_frame : (t : Tables) → CanMap t → (k j : ℕ) (c : FlatConnection) → slice_get t.flat.connections k ≡ Some c
    → (c.connector ≡ SharedMemory) ⊎ (c.connector ≡ Mmio) → j < memory_pages t.settled k c
    → (info : FrameInfo) × (slice_get (frames (system t)) (memory_number (system t) k j) ≡ Some info) × IsMemoryFrame t k j c info
memory_frame t can k j c h (inl m) l = (
  frame (OfConnection k) None None,
  (frames_stand (system t)).shared k j c h (ap is_shared m) l,
  IsMemoryFrame.of_shared m refl,
)
memory_frame t can k j c h (inr m) l =
    let r = registers_there t k j c m l in let f = first_is t k c r.0 h r.1 in
    let one : OneDevice c f.connection = one_device t c r.0 r.1 f in
    let paddr = can.memory.paddr k f.number c f.connection h f.here one in
    let got = (frames_stand (system t)).registers k j f.number c f.connection r.0 f.end h r.1 f.first f.here f.leads
    (omega (arith, l, can.memory.pages k f.number c f.connection h f.here one)) in (
      frame (OfLeaf f.end.leaf) (Some (memory_paddr t.settled f.number f.connection + 4096 * j)) None,
      got,
      IsMemoryFrame.of_device r.0 m r.1
          (ap (λ z. frame (OfLeaf z) (Some (memory_paddr t.settled f.number f.connection + 4096 * j)) None) f.leaf
          ∙ ap (λ z. frame (OfLeaf r.0.leaf) (Some (z + 4096 * j)) None) (sym paddr)),
    )

-- ---- pages that show memory

-- the memory of a window
pub record MemoryOf (t : Tables) (e : EndAt) (r : Region) : Type 0 where
  pub connection : FlatConnection
  pub here : slice_get t.flat.connections e.connection ≡ Some connection
  pub kind : (connection.connector ≡ SharedMemory) ⊎ (connection.connector ≡ Mmio)
  pub pages : r.pages ≡ memory_pages t.settled e.connection connection

pub memory_of : (t : Tables) (d : ℕ) (r : Region) (e : EndAt) → IsIn r (regions (system t) d) → r.content ≡ Window e
    → MemoryOf t e r
memory_of t d r e i c =
    let w = window_of t d r e i c in let v = seen (system t) d e w.0 in
    search (rules, has_memory, seen_pages)

-- the page of a window that shows page j of the memory of connection k
pub record ShowsAt (t : Tables) (d at k j : ℕ) : Type 0 where
  pub number : ℕ
  pub region : Region
  pub e : EndAt
  pub content : region.content ≡ Window e
  pub of_connection : e.connection ≡ k
  pub page : IsRegionPage t d number at j region

pub shows_at : (t : Tables) (d k j : ℕ) (p : MappedPage) → p.shown ≡ Memory k j → IsIn p (mapped_pages (system t) d)
    → ShowsAt t d p.at k j
shows_at t d k j p e i =
    let s = system t in
    elim (in_append p (section_part t.images (leaves_of t.flat d)) (region_part t.settled (base s) (regions s d)) i) [
      | inl q ↦
          let q = from_map section_page p (section_pages t.images (leaves_of t.flat d)) q in
          let f : Own q.0.fill ≡ Memory k j = ap (λ (z : MappedPage). z.shown) q.2 ∙ e in
          cc
      | inr q ↦
          let a = from_gather (pages_of_region t.settled (base s) (regions s d)) p (regions s d) q in
          let b = from_map (page_of t.settled (begins t d a.0) a.1) p (range_with_len 0 a.1.pages) a.3 in
          by_content a.0 a.1 b.0 a.1.content refl a.2 (below_count a.1.pages b.0 b.1) b.2
    ] where
      by_content : (n : ℕ) (r : Region) (i : ℕ) (c : Content) → r.content ≡ c → slice_get (regions (system t) d) n ≡ Some r
          → i < r.pages → region_page t.settled c (begins t d n + 4096 * i) i ≡ p → ShowsAt t d p.at k j
      by_content n r i (Window w) c h l q =
          let f : Memory w.connection i ≡ Memory k j = ap (λ (z : MappedPage). z.shown) q ∙ e in
          let number : w.connection ≡ k = cc in
          let page : i ≡ j = cc in
          search (rules)
      by_content n r i _ c h l q = let f : Own None ≡ Memory k j = ap (λ (z : MappedPage). z.shown) q ∙ e in cc

-- ---- the frame of a page

frame_by : (t : Tables) → CanMap t → (d : ℕ) (x : Domain) → slice_get t.flat.domains d ≡ Some x → (n : ℕ) (p : MappedPage)
    → slice_get (mapped_pages (system t) d) n ≡ Some p → (w : Shown) → p.shown ≡ w
    → (info : FrameInfo) × (slice_get (frames (system t)) (number_shown (system t) d n p.shown) ≡ Some info)
frame_by t can d x h n p e (Own fill) f =
    (frame (OfDomain d) None fill, (frames_stand (system t)).own d n p fill e f (below t.flat.domains d x h))
frame_by t can d x h n p e (Memory k j) f =
    let s = shows_at t d k j p f (in_place p (mapped_pages (system t) d) n e) in
    let m = memory_of t d s.region s.e (in_place s.region (regions (system t) d) s.number s.page.here) s.content in
    let P : ℕ → Type 0 = λ z. slice_get t.flat.connections z ≡ Some m.connection in
    let pages : s.region.pages ≡ memory_pages t.settled k m.connection = search (rules) in
    let g = memory_frame t can k j m.connection (subst P s.of_connection m.here) m.kind (omega (arith, pages, s.page.within)) in
    (g.0, ap (λ z. slice_get (frames (system t)) (number_shown (system t) d n z)) f ∙ g.1)

pub frame_of_page : (t : Tables) → CanMap t → (d : ℕ) (x : Domain) → slice_get t.flat.domains d ≡ Some x
    → (n : ℕ) (p : MappedPage) → slice_get (mapped_pages (system t) d) n ≡ Some p
    → (info : FrameInfo) × (object_at (spec_of t) (place t (FrameOf (number_shown (system t) d n p.shown))) ≡ Some
    (frame_object info))
frame_of_page t can d x h n p e =
    let i = frame_by t can d x h n p e p.shown refl in let f = number_shown (system t) d n p.shown in
    (i.0, frame_there t f i.0 (ap (λ (z : Spaces). slice_get z.frames f) can.spaces ∙ i.1))
