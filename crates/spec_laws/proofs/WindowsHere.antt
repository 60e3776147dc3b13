-- Page tables hold pages of windows alone that lead to other labels, and a page of each window.
use Rattle.spec_laws.proofs.Common.{AtOtherEnd, Bool, Cap, Domain, FrameOf, From, HasPage, HasWindows, InTable, IsConnected, IsIn, IsWindow, LeadsTo, MappedPage, Mmio, ObjectKind, OfDevice, OfFrames, Page, Read, Some, TableOf, Tables}
use Rattle.spec_laws.proofs.Common.{ap, arith, base, domain_label, false, gives, in_place, inl, inr, is_at_device, is_window, kind_at, kind_of_object, kind_there, label_of, leaf_label, mapped_pages, may_read, may_write, memory_number}
use Rattle.spec_laws.proofs.Common.{memory_pages, number_of, number_shown, object, option_map_or, page, page_mapping, page_of, page_rights, place, place_of, policy_tables, refl, region_start, regions, setting_of, slice_get, spec_of, subst}
use Rattle.spec_laws.proofs.Common.{rules, sym, true, window_pages, window_region, window_rights, ℕ, ◌<◌, ◌∙◌, ◌≡◌, ◌≢◌}
use Rattle.arch_policy.specs.Ends.{EndAt}
use Rattle.cap_model.specs.declared.kind.Kind.TheVariants as kinds
use Rattle.cap_model.specs.declared.object.Object.TheVariants as objects
use Rattle.cspace_layout.specs.declared.end_at.EndAt.{EndAt as Joined}
use Rattle.spec_laws.proofs.EndsHere.{from_windows, in_windows, joined, leaves_are}
use Rattle.spec_laws.proofs.EdgeJoints.{in_its_domain, leaf_of_domain, one_end}
use Rattle.spec_laws.proofs.Mapped.{IsPage, OfWindow, Sees, first_page, from_mapped, from_pages, in_pages, laid, own_frame, sees_device, sees_shared, window_there}
use Rattle.spec_laws.proofs.Rows.{seen_by, seen_window, window_sees, window_soft}
use Rattle.spec_laws.proofs.TablesHere.{in_table, page_held}
use Rattle.spec_laws.proofs.Whose.{label_there, labels, owner_of}

module _ (t : Tables) (h : IsConnected t) where
  -- rights by access
  rights_are : (r w : Bool) (p : Page) → p.read ≡ r → p.write ≡ w → page_rights p ≡ record {
    read = r;
    write = w;
    grant = false;
    reply = false;
  }
  rights_are r w p e f =
      ap (λ z. record { read = z; write = p.write; grant = false; reply = false }) e
      ∙ ap (λ z. record { read = r; write = z; grant = false; reply = false }) f

  -- a capability to the frame of a page that an end sees is one of its window
  to_window : (x : EndAt t.flat) (o : ObjectKind) (f p : ℕ) (held : Cap) → Sees t h x o f → held.object ≡ place t (FrameOf f)
      → held.rights ≡ window_rights (setting_of t.settled x.place x.number)
      → label_of (labels t) p ≡ leaf_label (policy_tables t) x.end.leaf
      → IsWindow (policy_tables t) (spec_of t) (labels t) x o p held
  to_window x o f p held s leads rights from =
      let kind : kind_of_object (object t (FrameOf f)) ≡ kinds.Frame = search (rules) in
      record {
        memory = s.memory;
        frame = ap (kind_at (spec_of t)) leads ∙ kind_there t (FrameOf f) s.there ∙ ap (λ z. Some z) kind;
        rights = rights;
        from = from;
        to = subst (λ z. LeadsTo (policy_tables t) x o z)
            (sym (ap (label_of (labels t)) leads ∙ label_there t (FrameOf f) s.there)) s.leads;
      }

  -- what an end with a window sees
  seen : (x : EndAt t.flat) (j : ℕ) → is_window x.connection.connector x.end.role ≡ true
      → j < memory_pages t.settled x.place x.connection → (o : ObjectKind) × Sees t h x o (memory_number (laid t h) x.place j)
  seen x j w l = elim (window_sees x.connection.connector x.end.role w) [
    | inl e ↦ (OfFrames, sees_shared t h x j e.0 l)
    | inr e ↦ (OfDevice, sees_device t h x j e.0 e.1 l)
  ]

  window_size : (x : EndAt t.flat) → window_pages t.flat t.settled (joined x) ≡ memory_pages t.settled x.place x.connection
  window_size x = ap (λ z. option_map_or (memory_pages t.settled x.place) z 0) x.here

  -- ---- only windows lead out

  window_only : (d p : ℕ) (x : Domain) (held : Cap) (g : Page) → slice_get t.flat.domains d ≡ Some x
      → label_of (labels t) p ≡ domain_label (policy_tables t) d → (q : IsPage t h d g) → held.object ≡ place t (FrameOf g.frame)
      → held.rights ≡ page_rights g → OfWindow (laid t h) d q.mapped
      → (y : EndAt t.flat) × (o : ObjectKind) × IsWindow (policy_tables t) (spec_of t) (labels t) y o p held
  window_only d p x held g e from q leads rights w =
      let v = from_windows (laid t h) d w.end w.there in let y = v.at in
      let k : y.place ≡ w.end.connection = ap (λ (z : Joined). z.connection) v.is in
      let size : window_pages t.flat t.settled w.end ≡ memory_pages t.settled y.place y.connection =
      ap (window_pages t.flat t.settled) (sym v.is) ∙ window_size y in
      let s = seen y w.number v.sees (omega (arith, w.below, size)) in
      let frame : g.frame ≡ memory_number (laid t h) y.place w.number = search (rules, laid) in
      let setting = ap (λ (z : Joined). setting_of t.settled z.connection z.end) v.is in
      let read : g.read ≡ may_read (setting_of t.settled y.place y.number) = search (rules) in
      let write : g.write ≡ may_write (setting_of t.settled y.place y.number) = search (rules) in
      let mine : leaf_label (policy_tables t) y.end.leaf ≡ domain_label (policy_tables t) d =
      leaf_of_domain t h d y.end.leaf x e (subst (λ z. IsIn y.end.leaf z) (leaves_are (laid t h) d x e) v.listed) in (
        y,
        s.0,
        to_window y s.0 (memory_number (laid t h) y.place w.number) p held s.1
            (leads ∙ ap (λ z. place t (FrameOf z)) frame) (rights ∙ rights_are _ _ g read write) (from ∙ sym mine),
      )

  only : (p i : ℕ) (held : Cap) → InTable (spec_of t) p i held → label_of (labels t) p ≢ label_of (labels t) held.object
      → (x : EndAt t.flat) × (o : ObjectKind) × IsWindow (policy_tables t) (spec_of t) (labels t) x o p held
  only p i held there differ =
      let b = in_table t p i held there in let d = b.domain in
      elim b.holds [
        | inr table ↦
            absurd
            (differ (b.label ∙ sym (ap (label_of (labels t)) table.object ∙ label_there t (TableOf d table.number) table.there)))
        | inl page ↦
            let g = page.page in let q = from_pages t h d b.found g b.here page.there in
            elim (from_mapped (laid t h) d q.mapped (in_place q.mapped (mapped_pages (laid t h) d) q.number q.here)) [
              | inl own ↦
                  let f = own_frame t h d q.number b.found q.mapped b.here q.here own in
                  let frame : number_shown (laid t h) d q.number q.mapped.shown ≡ g.frame = ap (λ (z : Page). z.frame) q.is in
                  let label = label_there t (FrameOf (number_shown (laid t h) d q.number q.mapped.shown)) f.0
                  ∙ ap (number_of t.numbers) f.1 in
                  absurd
                  (differ (b.label ∙ sym (ap (label_of (labels t)) (page.object ∙ ap (λ z. place t (FrameOf z)) (sym frame))
                  ∙ label)))
              | inr w ↦ window_only d p b.found held g b.here b.label q page.object page.rights w
            ]
      ]

  -- ---- each window has a page

  -- what leads over frames leads to one label
  one_label : (x : EndAt t.flat) (o q : ObjectKind) (l m : ℕ) → gives x.connection.connector x.end.role o Read ≡ true
      → gives x.connection.connector x.end.role q Read ≡ true
      → LeadsTo (policy_tables t) x o l → LeadsTo (policy_tables t) x q m → (q ≡ o) × (l ≡ m)
  one_label x o q l m a b u v =
      elim (seen_by x.connection.connector x.end.role o a) [
        | inl s ↦ elim (seen_by x.connection.connector x.end.role q b) [
          | inl r ↦
              let left = subst (λ z. LeadsTo (policy_tables t) x z l) s.object u in
              (r.object ∙ sym s.object, left ∙ sym (subst (λ z. LeadsTo (policy_tables t) x z m) r.object v))
          | inr r ↦ absurd (let e = sym s.connector ∙ r.connector in cc)
        ]
        | inr s ↦ elim (seen_by x.connection.connector x.end.role q b) [
          | inl r ↦ absurd (let e = sym r.connector ∙ s.connector in cc)
          | inr r ↦
              let left : AtOtherEnd (policy_tables t) x l = subst (λ z. LeadsTo (policy_tables t) x z l) s.object u in
              let right : AtOtherEnd (policy_tables t) x m = subst (λ z. LeadsTo (policy_tables t) x z m) r.object v in
              let leaf : right.at.end.leaf ≡ left.at.end.leaf = one_end t h left.at right.at (right.same ∙ sym left.same)
              (hard x left s.connector s.role) (hard x right s.connector s.role) in
              (r.object ∙ sym s.object, left.label_is ∙ sym (right.label_is ∙ ap (leaf_label (policy_tables t)) leaf))
        ]
      ] where
        hard : (x : EndAt t.flat) {l : ℕ} (o : AtOtherEnd (policy_tables t) x l) → x.connection.connector ≡ Mmio
            → x.end.role ≡ From
            → is_at_device o.at ≡ true
        hard x o e f = cc

  every : (x : EndAt t.flat) (o : ObjectKind) (label : ℕ) → gives x.connection.connector x.end.role o Read ≡ true
      → LeadsTo (policy_tables t) x o label → HasPage (policy_tables t) (spec_of t) (labels t) x o label
  every x o label given to =
      let g = laid t h in let w = seen_window x.connection.connector x.end.role o given in
      let i = in_its_domain t h x (window_soft x.connection.connector x.end.role w) in
      let d = i.domain in let e = joined x in
      let listed = subst (λ z. IsIn x.end.leaf z) (sym (leaves_are g d i.found i.here)) i.listed in
      let r = window_region t.flat t.settled e in
      let n = place_of r (regions g d) (window_there g d e (in_windows g h.flat d x listed w)) in
      let some = h.seen x w in
      let front : MappedPage = page_of t.settled (region_start (base g) (regions g d) n.0) r 0 in
      let m = place_of front (mapped_pages g d) (first_page g d n.0 r n.1 (omega (arith, window_size x, some))) in
      let shown : Page = page g d m.0 front in
      let held = page_held t d i.found shown i.here (in_pages t h d m.0 i.found front i.here m.1) in
      let s = seen x 0 w some in let f = memory_number g x.place 0 in
      let same = one_label x o s.0 label (number_of t.numbers (owner_of t (FrameOf f))) given s.1.memory to s.1.leads in
      let c : Cap = (page_mapping (place t (FrameOf 0)) shown).cap in
      let leads : c.object ≡ place t (FrameOf f) = omega arith in
      let from = label_there t (TableOf d held.number) held.there ∙ sym i.label in
      let is = to_window x s.0 f (place t (TableOf d held.number)) c s.1 leads refl from in
      record {
        table = place t (TableOf d held.number);
        slot = held.slot;
        cap = c;
        there = held.held;
        page = subst (λ z. IsWindow (policy_tables t) (spec_of t) (labels t) x z (place t (TableOf d held.number)) c) same.0 is;
        is = ap (label_of (labels t)) leads ∙ label_there t (FrameOf f) s.1.there ∙ sym same.1;
      }

  pub windows : HasWindows (policy_tables t) (spec_of t) (labels t)
  windows = record { only = only; every = every }
