-- The labels of objects
use Rattle.spec_laws.proofs.Common.{AreDomainLabels, AreFrameLabels, CNodeOf, CanMap, CanSlot, Cap, Domain, EndAt, FlatConnection, FlatEnd, FrameInfo, FrameOf, IsAt, IsIn, IsNamed, IsOf, IsOwn, Leaf, List, LockOf, Mmio, None, Option, Owner, Part}
use Rattle.spec_laws.proofs.Common.{SharedMemory, ShowsMemory, Some, Spaces, Tables, ThreadLine, ap, arch, arith, below, frame, frame_owner, frames_stand, get_map, labels_of, map_lines, memory_number, number_shown, object_at, part, part_label, parts}
use Rattle.spec_laws.proofs.Common.{place, registers, registers_in, root_of, root_span, rules, shapes, slice_get, spec_of, stands, subst, sym, system, ℕ, ◌+◌, ◌<◌, ◌∙◌, ◌≡◌, IsThere, What, has_part, number_of, option_map_or, thread_place}
use Rattle.arch_policy.specs.declared.owner.Owner.TheVariants as owners
use Rattle.cap_model.specs.declared.object.Object.TheVariants as objects
use Rattle.system_spec.specs.declared.part.What.TheVariants.{ThreadOf as OfThread}
use Rattle.system_spec.specs.declared.series.Series.TheVariants as series
use Rattle.vspace_layout.specs.declared.owner.Owner.TheVariants.{OfDomain}
use Rattle.spec_laws.proofs.Finding.{found}
use Rattle.spec_laws.proofs.Framing.{IsMemoryFrame, memory_frame}
use Rattle.spec_laws.proofs.Locks.{slot_is}
use Rattle.spec_laws.proofs.Owning.{no_memory}
use Rattle.spec_laws.proofs.Rooted.{frames_from}
use Rattle.spec_laws.proofs.Showing.{memory_shown}
use Rattle.spec_laws.proofs.SlotLists.{some}
use Rattle.spec_laws.proofs.Threading.{domain_is, the_line}
use Rattle.spec_laws.proofs.Threads.{thread_at}
use Rattle.spec_laws.proofs.Whose.{owner_of, whose}

-- a part has its owner's label
pub label_is : (t : Tables) (p : Part) → IsIn p (parts t) → IsOf t (labels_of t) (place t p.what) p.owner
label_is t p i = get_map (part_label t) (parts t) (place t p.what) p (stands t p i)

pub moved : (t : Tables) (m n : ℕ) (o : Owner) → m ≡ n → IsOf t (labels_of t) m o → IsOf t (labels_of t) n o
moved t m n o e h = subst (λ z. IsOf t (labels_of t) z o) e h

-- what there is has its owner's label
pub label_at : (t : Tables) (w : What) → IsThere t w → IsOf t (labels_of t) (place t w) (owner_of t w)
label_at t w h = search (rules, has_part, owner_of, whose, label_is)

frame_label : (t : Tables) (f : ℕ) (info : FrameInfo) → slice_get t.spaces.frames f ≡ Some info
    → IsOf t (labels_of t) (place t (FrameOf f)) (frame_owner info.owner)
frame_label t f info e = label_at t (FrameOf f) (info, e)
    ∙ ap (λ o. Some (number_of t.numbers (option_map_or (λ (x : FrameInfo). frame_owner x.owner) o (owners.OfLeaf 0)))) e

module _ (t : Tables) (can : CanMap t) where
  -- ---- of domains

  cnodes : (d : ℕ) (x : Domain) → slice_get t.flat.domains d ≡ Some x → IsOf t (labels_of t) d (owners.OfDomain d)
  cnodes d x h = moved t (place t (CNodeOf d)) d (owners.OfDomain d) (omega arith) (label_at t (CNodeOf d) (x, h))

  threads : (at leaf d : ℕ) (end : Option EndAt) (x : Leaf) → IsIn (ThreadLine at leaf end) (map_lines t)
      → slice_get t.flat.leaves leaf ≡ Some x → x.domain ≡ Some d → IsOf t (labels_of t) at (owners.OfDomain d)
  threads at leaf d end x i h e =
      let l = the_line t can at leaf end i in let g = domain_is t can at leaf end l in
      let found : g.0 ≡ x = some (slice_get t.flat.leaves leaf) g.0 x g.1 h in
      let mine : Some l.domain ≡ Some d = sym g.2 ∙ ap (λ (z : Leaf). z.domain) found ∙ e in
      let same : l.domain ≡ d = cc in
      let w = OfThread l.domain l.number in let y = thread_place (system t) l.domain l.number l.y in
      let there : IsThere t w = ((l.leaves, l.here), (y, thread_at t can l.domain l.number l.leaves l.y l.here l.stands)) in
      subst (λ z. IsOf t (labels_of t) at (owners.OfDomain z)) same
      (moved t (place t w) at (owners.OfDomain l.domain) l.at_is (label_at t w there))

  locks : CanSlot t → (d bits m number : ℕ) (slots : List (ℕ × Cap)) (cap : Cap)
      → object_at (spec_of t) d ≡ Some (objects.CNode bits slots) → IsIn (m, cap) slots
      → IsNamed (spec_of t) cap.object series.Lock number → IsOf t (labels_of t) cap.object (owners.OfDomain d)
  locks slotted d bits m number slots cap o i n =
      let s = slot_is t slotted d m number bits slots cap o i n in
      moved t (place t (LockOf d s.number)) cap.object (owners.OfDomain d) (sym s.leads)
      (label_is t (part series.Lock s.named (owners.OfDomain d) (LockOf d s.number)) s.there)

  pub domain_labels : CanSlot t → AreDomainLabels t (spec_of t) (labels_of t) (map_lines t)
  domain_labels slotted = record { cnodes = cnodes; threads = threads; locks = locks slotted }

  -- ---- of frames

  own : (d v : ℕ) (x : Domain) (cap : Cap) → slice_get t.flat.domains d ≡ Some x → v < root_span (shapes (arch t))
      → IsAt (spec_of t) (root_of t d) v cap → IsOwn t (spec_of t) (root_of t) cap.object
      → IsOf t (labels_of t) cap.object (owners.OfDomain d)
  own d v x cap h l i o =
      let f = found t can d x h v cap l i in let fill = no_memory t can d x h v cap f o in
      let number = number_shown (system t) d f.number f.shown.shown in
      let got = (frames_stand (system t)).own d f.number f.shown fill.0 f.here fill.1 (below t.flat.domains d x h) in
      let at : place t (FrameOf number) ≡ frames_from t + number = omega arith in
      moved t (place t (FrameOf number)) cap.object (owners.OfDomain d) (at ∙ ap (λ (z : Cap). z.object) (sym f.is))
      (frame_label t number (frame (OfDomain d) None fill.0) (ap (λ (z : Spaces). slice_get z.frames number) can.spaces ∙ got))

  -- the label of a frame that a window shows
  memory_label : (d k j at : ℕ) (c : FlatConnection) → slice_get t.flat.connections k ≡ Some c
      → ShowsMemory t (spec_of t) (root_of t) d k j at → (info : FrameInfo) × IsMemoryFrame t k j c info
      × IsOf t (labels_of t) at (frame_owner info.owner)
  memory_label d k j at c h w =
      let m = memory_shown t can d k j at c h w in let g = memory_frame t can k j c h m.kind m.within in
      let f = memory_number (system t) k j in
      let there : place t (FrameOf f) ≡ frames_from t + f = omega arith in (
        g.0,
        g.2,
        moved t (place t (FrameOf f)) at (frame_owner g.0.owner) (there ∙ sym m.is)
            (frame_label t f g.0 (ap (λ (z : Spaces). slice_get z.frames f) can.spaces ∙ g.1)),
      )

  shared : (d k j at : ℕ) (c : FlatConnection) → slice_get t.flat.connections k ≡ Some c → c.connector ≡ SharedMemory
      → ShowsMemory t (spec_of t) (root_of t) d k j at → IsOf t (labels_of t) at (owners.OfConnection k)
  shared d k j at c h m w = let g = memory_label d k j at c h w in by_frame g.0 g.1 g.2 where
    by_frame : (info : FrameInfo) → IsMemoryFrame t k j c info → IsOf t (labels_of t) at (frame_owner info.owner)
        → IsOf t (labels_of t) at (owners.OfConnection k)
    by_frame info (IsMemoryFrame.of_shared e f) l = subst (λ (z : FrameInfo). IsOf t (labels_of t) at (frame_owner z.owner)) f l
    by_frame info (IsMemoryFrame.of_device e n r f) l = let g : Mmio ≡ SharedMemory = sym n ∙ m in cc

  device : (d k j at : ℕ) (c : FlatConnection) (e : FlatEnd) → slice_get t.flat.connections k ≡ Some c → registers c ≡ Some e
      → ShowsMemory t (spec_of t) (root_of t) d k j at → IsOf t (labels_of t) at (owners.OfLeaf e.leaf)
  device d k j at c e h r w = let g = memory_label d k j at c h w in by_frame g.0 g.1 g.2 where
    by_frame : (info : FrameInfo) → IsMemoryFrame t k j c info → IsOf t (labels_of t) at (frame_owner info.owner)
        → IsOf t (labels_of t) at (owners.OfLeaf e.leaf)
    by_frame info (IsMemoryFrame.of_shared n f) l = let g = sym (ap (λ z. registers_in z c.ends) n) ∙ r in cc
    by_frame info (IsMemoryFrame.of_device x n q f) l = search (rules, some)

  pub frame_labels : AreFrameLabels t (spec_of t) (root_of t) (labels_of t)
  frame_labels = record { own = own; shared = shared; device = device }
