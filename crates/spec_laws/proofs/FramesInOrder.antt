-- Own frames of domains stand by domain and address, behind them shared frames, and then registers of devices
use Rattle.spec_laws.proofs.Common.{AreFramesInOrder, CanMap, Domain, Fill, FlatConnection, FlatEnd, FrameInfo, FrameOf, IsBefore, IsNamed, IsOwn, IsOwnAt, IsRegisterAt, IsSharedAt, List, MappedPage, Mmio, Option, Own, Owned, Part, SharedMemory}
use Rattle.spec_laws.proofs.Common.{Some, Tables, [], ap, arith, at_place, before, below, cases_lt, false, frame_owner, frame_parts, get_ones, get_or_from_slice_get, in_gather, in_together, inl, inr, is_shared, leads_to, length, mapped_pages}
use Rattle.spec_laws.proofs.Common.{memory_number, name_at, numbered, object_at, objects_stand, own_frames, own_number, own_part, own_port, owned, part, place, position-Some, refl, register_frames, registers}
use Rattle.spec_laws.proofs.Common.{registers_in, root_of, rules, sections, shared_frames, shared_part, slice_get, spec_of, subst, sym, system, true, true≢false, ℕ, ◌+◌, ◌/◌, ◌<◌, ◌∙◌, ◌∷◌, ◌≡◌, ◌≤◌, ◌⊎◌, IsThere}
use Rattle.cap_model.specs.declared.object.Object.TheVariants as objects
use Rattle.system_spec.specs.declared.series.Series.TheVariants as series
use Rattle.spec_laws.proofs.Whose.{object_stands, of_frame}
use Rattle.spec_laws.proofs.Blocks.{behind, inside}
use Rattle.spec_laws.proofs.Finding.{found, rise}
use Rattle.spec_laws.proofs.Framing.{FirstTo, one_device}
use Rattle.spec_laws.proofs.Lists.{not_above}
use Rattle.spec_laws.proofs.Owning.{inside_own, no_memory, one_own, own_of}
use Rattle.spec_laws.proofs.Rooted.{frames_from}
use Rattle.spec_laws.proofs.Showing.{MemoryPlace, memory_at, memory_shown}

-- ---- the first connection to a device

first_least : (t : Tables) (k : ℕ) (c : FlatConnection) (e : FlatEnd) → slice_get t.flat.connections k ≡ Some c
    → registers c ≡ Some e → (f : FirstTo t e) → f.number ≤ k
first_least t k c e h r f =
    let s = position-Some (leads_to e) t.flat.connections f.number c f.first in
    search (rules, cases_lt, own_port, get_or_from_slice_get)

module _ (t : Tables) (can : CanMap t) where
  abbrev pages : ℕ → List MappedPage
  pages d = mapped_pages (system t) d

  abbrev own : ℕ
  own = length (own_part (system t))

  abbrev cs : List FlatConnection
  cs = t.flat.connections

  -- ---- own frames

  record OwnNumber (d v at : ℕ) : Type 0 where
    leaves : Domain
    here : slice_get t.flat.domains d ≡ Some leaves
    number : ℕ
    page : MappedPage
    stands : slice_get (pages d) number ≡ Some page
    same : page.at / 4096 ≡ v / 4096
    fill : Option Fill
    shown : page.shown ≡ Own fill
    is : at ≡ frames_from t + (before (own_frames (system t)) t.flat.domains d + before (own_of d) (pages d) number)
    low : before (own_of d) (pages d) number < length (own_frames (system t) d leaves)

  own_at : (d v at : ℕ) → IsOwnAt t (spec_of t) (root_of t) d v at → OwnNumber d v at
  own_at d v at w =
      let f = found t can d w.leaves w.here v w.cap w.within w.mapped in
      let P : ℕ → Type 0 = λ z. IsOwn t (spec_of t) (root_of t) z in
      let fill = no_memory t can d w.leaves w.here v w.cap f (subst P (sym w.names) w.own) in
      let is : w.cap.object ≡ frames_from t + own_number (system t) d f.number = search (rules, frames_from) in
      record {
        leaves = w.leaves;
        here = w.here;
        number = f.number;
        page = f.shown;
        stands = f.here;
        same = f.same;
        fill = fill.0;
        shown = fill.1;
        is = sym w.names ∙ is;
        low = inside_own t can d f.number w.leaves f.shown fill.0 f.here fill.1;
      }

  own_order : (d v m e w n : ℕ) → OwnNumber d v m → OwnNumber e w n → IsBefore d (v / 4096) e (w / 4096) → m < n
  own_order d v m e w n a b (inl l) =
      omega (arith, behind (own_frames (system t)) t.flat.domains d e a.leaves a.here l, a.low, a.is, b.is)
  own_order d v m e w n a b (inr r) = in_domain (subst (λ z. OwnNumber z w n) (sym r.0) b) where
    in_domain : OwnNumber d w n → m < n
    in_domain b =
        elim (cases_lt a.number b.number) [
          | inl l ↦
              let next = behind (own_of d) (pages d) a.number b.number a.page a.stands l in
              omega (arith, next, one_own d a.page a.fill a.shown, a.is, b.is)
          | inr l ↦ search (rules, not_above, rise)
        ]

  own_below : (d v m : ℕ) → OwnNumber d v m → m < frames_from t + own
  own_below d v m a =
      let all : before (own_frames (system t)) t.flat.domains d + length (own_frames (system t) d a.leaves) ≤ own =
      inside (own_frames (system t)) t.flat.domains d a.leaves a.here in
      omega (arith, all, a.low, a.is)

  -- ---- frames of memory

  -- frame j of connection k, in the part that f lays behind so many frames
  record FrameNumber (f : ℕ → FlatConnection → List FrameInfo) (front k j at : ℕ) : Type 0 where
    connection : FlatConnection
    here : slice_get cs k ≡ Some connection
    is : at ≡ frames_from t + (front + before f cs k + j)
    low : j < length (f k connection)

  abbrev shared : ℕ → FlatConnection → List FrameInfo
  shared = shared_frames t.settled

  abbrev laid : ℕ → FlatConnection → List FrameInfo
  laid = register_frames t.flat t.settled

  abbrev behind_shared : ℕ
  behind_shared = own + length (shared_part t.flat t.settled)

  shared_at : (k j at : ℕ) → IsSharedAt t (spec_of t) (root_of t) k j at → FrameNumber shared own k j at
  shared_at k j at w =
      let s = memory_shown t can w.domain k j at w.connection w.here w.shows in
      by_place s.is (memory_at t can k j w.connection w.here s.kind s.within) where
        by_place : at ≡ frames_from t + memory_number (system t) k j → MemoryPlace t k j w.connection
            → FrameNumber shared own k j at
        by_place is (MemoryPlace.at_shared n a) = search (rules, frames_from)
        by_place is (MemoryPlace.at_device e r f n a) =
            let g = sym (ap (λ z. registers_in z w.connection.ends) w.is_shared) ∙ r in absurd cc

  register_at : (k j at : ℕ) → IsRegisterAt t (spec_of t) (root_of t) k j at → FrameNumber laid behind_shared k j at
  register_at k j at w =
      let s = memory_shown t can w.domain k j at w.connection w.here w.shows in
      by_place s.is (elim s.kind [
        | inl m ↦ (let g : SharedMemory ≡ Mmio = sym m ∙ w.is_device in absurd cc)
        | inr m ↦ memory_at t can k j w.connection w.here (inr m) s.within
      ]) where
        by_place : at ≡ frames_from t + memory_number (system t) k j → MemoryPlace t k j w.connection
            → FrameNumber laid behind_shared k j at
        by_place is (MemoryPlace.at_shared n a) = search (rules)
        by_place is (MemoryPlace.at_device e r f n a) =
            let le = w.first f.number f.connection f.here (one_device t w.connection e r f) in
            let same : f.number ≡ k = omega (arith, le, first_least t k w.connection e w.here r f) in
            let number : FrameNumber laid behind_shared f.number j at = search (rules) in
            subst (λ z. FrameNumber laid behind_shared z j at) same number

  in_part : (f : ℕ → FlatConnection → List FrameInfo) (front k i m l j n : ℕ) → FrameNumber f front k i m
      → FrameNumber f front l j n → IsBefore k i l j → m < n
  in_part f front k i m l j n a b (inl g) = omega (arith, behind f cs k l a.connection a.here g, a.low, a.is, b.is)
  in_part f front k i m l j n a b (inr r) =
      let same : before f cs k ≡ before f cs l = ap (before f cs) r.0 in omega (arith, same, r.1, a.is, b.is)

  shared_below : (k i m l j n : ℕ) → FrameNumber shared own k i m → FrameNumber laid behind_shared l j n → m < n
  shared_below k i m l j n a b = omega (arith, inside shared cs k a.connection a.here, a.low, a.is, b.is)

  behind_own : (d v m k j n : ℕ) → IsOwnAt t (spec_of t) (root_of t) d v m → IsSharedAt t (spec_of t) (root_of t) k j n
      ⊎ IsRegisterAt t (spec_of t) (root_of t) k j n → m < n
  behind_own d v m k j n a (inl b) = omega (arith, own_below d v m (own_at d v m a), (shared_at k j n b).is)
  behind_own d v m k j n a (inr b) = omega (arith, own_below d v m (own_at d v m a), (register_at k j n b).is)

  -- ---- numbers

  named : (n : ℕ) → n < length t.spaces.frames → IsNamed (spec_of t) (place t (FrameOf 0) + n) series.Frame n
  named n l =
      let x = at_place t.spaces.frames n l in let y = owned (frame_owner x.0.owner) (FrameOf n) in
      let g : ℕ → FrameInfo → Owned = λ n z. owned (frame_owner z.owner) (FrameOf n) in
      let k : ℕ → Owned → List Part = λ n z. part series.Frame n z.owner z.what ∷ [] in
      let p = part series.Frame n (frame_owner x.0.owner) (FrameOf n) in
      let there = in_together (sections t) 7 (numbered series.Frame (frame_parts t.spaces.frames)) p refl
      (in_gather k p (frame_parts t.spaces.frames) n y (get_ones g t.spaces.frames n x.0 x.1) (inl refl)) in
      let at : place t (FrameOf n) ≡ place t (FrameOf 0) + n = omega arith in
      ap (name_at (spec_of t)) (sym at) ∙ (objects_stand t).name p there

  all_numbered : (at : ℕ) (paddr : Option ℕ) (fill : Option Fill) → object_at (spec_of t) at ≡ Some (objects.Frame paddr fill)
      → (n : ℕ) × (n < length t.spaces.frames) × (at ≡ place t (FrameOf 0) + n)
  all_numbered at paddr fill o =
      let x = object_stands t at (objects.Frame paddr fill) o in let w = of_frame x.what x.sort in
      let is : IsThere t (FrameOf w.0) = subst (λ z. IsThere t z) w.1 x.there in
      let stands : place t (FrameOf w.0) ≡ place t (FrameOf 0) + w.0 = omega arith in
      (w.0, below t.spaces.frames w.0 is.0 is.1, sym x.stands ∙ ap (λ z. place t z) w.1 ∙ stands)

  pub frames_in_order : AreFramesInOrder t (spec_of t) (root_of t)
  frames_in_order = record {
    own = λ d v m e w n a b l. own_order d v m e w n (own_at d v m a) (own_at e w n b) l;
    own_first = behind_own;
    shared = λ k i m l j n a b h. in_part shared own k i m l j n (shared_at k i m a) (shared_at l j n b) h;
    shared_first = λ k i m l j n a b. shared_below k i m l j n (shared_at k i m a) (register_at l j n b);
    registers = λ k i m l j n a b h. in_part laid behind_shared k i m l j n (register_at k i m a) (register_at l j n b) h;
    numbered = record { first = place t (FrameOf 0); count = length t.spaces.frames; each = named; all = all_numbered };
  }
