-- Frames that no window shows are mapped once, and filled as their pages say
use Rattle.spec_laws.proofs.Common.{AreOwnFrames, Bool, Buffer, CanMap, Cap, Content, Domain, EndAt, Fill, Frame, FrameInfo, FrameOf, IsAt, IsIn, IsOwn, IsRegionPage, IsSectionPage, List, MappedPage, Memory, None, Option, Own, Region, Shown, Some}
use Rattle.spec_laws.proofs.Common.{Spaces, Stack, Tables, Window, ap, arch, arith, before, begins, below, frame, frames_stand, in_left, in_map, in_place, leaves_of, length, mapped_pages, number_shown, object_at, own_frame, own_frames, own_number}
use Rattle.spec_laws.proofs.Common.{place, place_of, refl, region_page, root_of, root_span, rules, section_page, section_pages, section_part, shapes, slice_get, spec_of, subst, sym, system, ℕ, ◌*◌, ◌+◌, ◌/◌, ◌<◌, ◌∙◌, ◌≡◌}
use Rattle.vspace_layout.specs.declared.owner.Owner.TheVariants.{OfDomain}
use Rattle.spec_laws.proofs.Blocks.{apart, inside}
use Rattle.spec_laws.proofs.Finding.{Found, found}
use Rattle.spec_laws.proofs.Framing.{frame_there, shows_at}
use Rattle.spec_laws.proofs.Members.{whole}
use Rattle.spec_laws.proofs.Paging.{has_domain, region_in, section_there}
use Rattle.spec_laws.proofs.Rooted.{frames_from}
use Rattle.spec_laws.proofs.Showing.{in_domain}
use Rattle.spec_laws.proofs.SlotLists.{some}
use Rattle.spec_laws.proofs.Spaces.{cap_is, is_at}

-- the own frame that a page has
abbrev pub own_of : ℕ → ℕ → MappedPage → List FrameInfo
own_of d n p = own_frame d p.shown

pub one_own : (d : ℕ) (p : MappedPage) (fill : Option Fill) → p.shown ≡ Own fill → length (own_frame d p.shown) ≡ 1
one_own d p fill e = ap (λ z. length (own_frame d z)) e

module _ (t : Tables) (can : CanMap t) where
  abbrev pages : ℕ → List MappedPage
  pages d = mapped_pages (system t) d

  -- the object of an own frame
  own_object : (d : ℕ) (x : Domain) → slice_get t.flat.domains d ≡ Some x → (n : ℕ) (p : MappedPage) (fill : Option Fill)
      → slice_get (pages d) n ≡ Some p → p.shown ≡ Own fill
      → object_at (spec_of t) (frames_from t + number_shown (system t) d n p.shown) ≡ Some (Frame None fill)
  own_object d x h n p fill e f =
      let number = number_shown (system t) d n p.shown in
      let got = (frames_stand (system t)).own d n p fill e f (below t.flat.domains d x h) in
      let at : place t (FrameOf number) ≡ frames_from t + number = omega arith in
      ap (λ z. object_at (spec_of t) z) (sym at) ∙ frame_there t number (frame (OfDomain d) None fill)
      (ap (λ (z : Spaces). slice_get z.frames number) can.spaces ∙ got)

  of_page : (d v : ℕ) (cap : Cap) (p : MappedPage) (fill : Option Fill) (x : Domain) → slice_get t.flat.domains d ≡ Some x
      → IsIn p (pages d) → p.at ≡ 4096 * (v / 4096) → p.shown ≡ Own fill
      → IsAt (spec_of t) (root_of t d) v cap → object_at (spec_of t) cap.object ≡ Some (Frame None fill)
  of_page d v cap p fill x h i a e at =
      let n = place_of p (pages d) i in
      let same : p.at / 4096 ≡ v / 4096 = ap (λ z. z / 4096) a ∙ whole v in
      ap (λ (z : Cap). object_at (spec_of t) z.object) (cap_is t can d x h v n.0 p cap n.1 same at)
      ∙ own_object d x h n.0 p fill n.1 e

  fills : (d v : ℕ) (cap : Cap) (write : Bool) (fill : Option Fill) → IsSectionPage t d (4096 * (v / 4096)) write fill
      → IsAt (spec_of t) (root_of t d) v cap → object_at (spec_of t) cap.object ≡ Some (Frame None fill)
  fills d v cap write fill s at =
      let x = has_domain t d (λ none. let P : List ℕ → Type 0 = λ z. IsIn s.leaf z in subst P none s.inside) in
      let q = section_there t can.settled d (4096 * (v / 4096)) write fill s in let p = section_page q.0 in
      of_page d v cap p fill x.0 x.1 (in_left p (section_part t.images (leaves_of t.flat d)) _
      (in_map section_page q.0 (section_pages t.images (leaves_of t.flat d)) q.1)) q.2 (ap (λ z. Own z) q.4) at

  zeros : (d n v j : ℕ) (r : Region) (cap : Cap) → IsRegionPage t d n (4096 * (v / 4096)) j r
      → ((e : EndAt) → r.content ≡ Window e → ⊥) → IsAt (spec_of t) (root_of t d) v cap
      → object_at (spec_of t) cap.object ≡ Some (Frame None None)
  zeros d n v j r cap p other at = by_content r.content refl where
    by_content : (c : Content) → r.content ≡ c → object_at (spec_of t) cap.object ≡ Some (Frame None None)
    by_content (Window e) c = absurd (other e c)
    by_content Stack c = let x = in_domain t d n r p.here in
        of_page d v cap (region_page t.settled Stack (begins t d n + 4096 * j) j) None x.0 x.1
        (region_in t can.settled d n (4096 * (v / 4096)) j r Stack p c) (sym p.at) refl at
    by_content Buffer c = let x = in_domain t d n r p.here in
        of_page d v cap (region_page t.settled Buffer (begins t d n + 4096 * j) j) None x.0 x.1
        (region_in t can.settled d n (4096 * (v / 4096)) j r Buffer p c) (sym p.at) refl at

  -- ---- an own frame is mapped once

  pub no_memory : (d : ℕ) (x : Domain) (h : slice_get t.flat.domains d ≡ Some x) (v : ℕ) (a : Cap) (f : Found t can d x h v a)
      → IsOwn t (spec_of t) (root_of t) a.object → (fill : Option Fill) × (f.shown.shown ≡ Own fill)
  no_memory d x h v a f own = by_shown f.shown.shown refl where
    by_shown : (w : Shown) → f.shown.shown ≡ w → (fill : Option Fill) × (f.shown.shown ≡ Own fill)
    by_shown (Own fill) e = (fill, e)
    by_shown (Memory k j) e =
        let s = shows_at t d k j f.shown e (in_place f.shown (pages d) f.number f.here) in
        let P : Cap → Type 0 = λ z. IsAt (spec_of t) (root_of t d) f.shown.at z in
        absurd (own d k j (record {
          number = s.number;
          region = s.region;
          e = s.e;
          content = s.content;
          of_connection = s.of_connection;
          v = f.shown.at;
          page = s.page;
          cap = a;
          mapped = subst P (sym f.is) (is_at t can d x h f.shown.at f.number f.shown f.here refl);
          names = refl;
        }))

  pub inside_own : (d n : ℕ) (x : Domain) (p : MappedPage) (fill : Option Fill) → slice_get (pages d) n ≡ Some p
      → p.shown ≡ Own fill → before (own_of d) (pages d) n < length (own_frames (system t) d x)
  inside_own d n x p fill e f = omega (arith, inside (own_of d) (pages d) n p e, one_own d p fill f)

  same_page : (d e n m : ℕ) (p q : MappedPage) (fill more : Option Fill) → d ≡ e → slice_get (pages d) n ≡ Some p
      → p.shown ≡ Own fill → slice_get (pages e) m ≡ Some q → q.shown ≡ Own more
      → before (own_of d) (pages d) n ≡ before (own_of e) (pages e) m → p.at / 4096 ≡ q.at / 4096
  same_page d e n m p q fill more at h f g k same =
      let there = subst (λ z. slice_get (pages z) m ≡ Some q) (sym at) g in
      let one = one_own d p fill f in let two = one_own d q more k in
      let eq = subst (λ z. before (own_of d) (pages d) n ≡ before (own_of z) (pages z) m) (sym at) same in
      let u = apart (own_of d) (pages d) n m 0 0 p q h there (omega (arith, one)) (omega (arith, two)) (omega (arith, eq)) in
      ap (λ (z : MappedPage). z.at / 4096)
      (some (slice_get (pages d) m) p q (ap (λ z. slice_get (pages d) z) (sym u.0) ∙ h) there)

  once : (d e v w : ℕ) (x y : Domain) (a b : Cap) → slice_get t.flat.domains d ≡ Some x → slice_get t.flat.domains e ≡ Some y
      → v < root_span (shapes (arch t)) → w < root_span (shapes (arch t)) → IsAt (spec_of t) (root_of t d) v a
      → IsAt (spec_of t) (root_of t e) w b → a.object ≡ b.object → IsOwn t (spec_of t) (root_of t) a.object
      → (d ≡ e) × (v / 4096 ≡ w / 4096)
  once d e v w x y a b h g l k i j same own =
      let f = found t can d x h v a l i in let q = found t can e y g w b k j in
      let fill = no_memory d x h v a f own in
      let more = no_memory e y g w b q (subst (λ z. IsOwn t (spec_of t) (root_of t) z) same own) in
      let first : a.object ≡ frames_from t + own_number (system t) d f.number = search (rules, frames_from) in
      let second : b.object ≡ frames_from t + own_number (system t) e q.number = search (rules, frames_from) in
      let number : own_number (system t) d f.number ≡ own_number (system t) e q.number = omega (arith, first, second, same) in
      let u = apart (own_frames (system t)) t.flat.domains d e (before (own_of d) (pages d) f.number)
      (before (own_of e) (pages e) q.number) x y h g
      (inside_own d f.number x f.shown fill.0 f.here fill.1) (inside_own e q.number y q.shown more.0 q.here more.1) number in (
        u.0,
        sym f.same ∙ same_page d e f.number q.number f.shown q.shown fill.0 more.0 u.0 f.here fill.1 q.here more.1
            u.1 ∙ q.same,
      )

  pub own_frames_are : AreOwnFrames t (spec_of t) (root_of t)
  own_frames_are = record { fills = fills; zeros = zeros; once = once }
