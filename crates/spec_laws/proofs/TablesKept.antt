-- Page tables hold frames and tables of the next level, each in a slot of its own, and the root of a space stands first.
use Rattle.spec_laws.proofs.Common.{Aarch64, Arch, Arm11, Bool, Cap, Directory, Domain, FrameOf, Global, IsChild, IsFit, IsIn, IsThere, Layer, Level, List, Mapping, NONE, Object, Page, Rights, Rises, Some, Table, TableOf, Tables, Upper, [], and_from}
use Rattle.spec_laws.proofs.Common.{ap, arch, arith, at_place, cap, child, div-add-mod, eq-eqb, false, fits_as, frame_object, from_map, get_or_from_slice_get, in_append, in_place, inl, inr, is_root_object, is_space_root, keeps, keeps_table}
use Rattle.spec_laws.proofs.Common.{kept_rise, kind_number, kind_of_object, kind_rights, layers, length, list_all, lt-ltb, map, nat_lt, object, object_there, option_map_or, page_mapping, page_rights, pages_at, place, refl, rise, root_first}
use Rattle.spec_laws.proofs.Common.{root_span, shape, shape_of_layer, shapes, shapes_are_sized, size, sizes, slice_get, slice_get_within, slot_of, slots_below, slots_lead, spec_of, subst, sym, table_of, tables_at, tables_counted, tables_of, true, ℕ}
use Rattle.spec_laws.proofs.Common.{rules, ◌&&◌, ◌+◌, ◌<◌, ◌^◌, ◌∙◌, ◌∷◌, ◌≡◌}
use Rattle.std.specs.Prelude.{◌/◌, ◌%◌}
use Rattle.cap_model.specs.declared.kind.Kind.TheVariants as kinds
use Rattle.cap_model.specs.declared.object.Object.TheVariants as objects
use Rattle.cap_model.specs.Kept.{within}
use Rattle.page_tables.specs.Levels.{numbered}
use Rattle.spec_laws.proofs.CapsFit.{all_pass, fits_as_of}

-- ---- what tables are

pub record IsTable (ys : List Layer) (o : Object) : Type 0 where
  pub layer : Layer
  pub among : IsIn layer ys
  pub run : List Mapping
  pub there : IsIn run layer.tables
  pub link : ℕ
  pub is : table_of layer.shape link run ≡ o

pub from_tables : (first link : ℕ) (ys : List Layer) (o : Object) → IsIn o (numbered first link ys) → IsTable ys o
from_tables first link [] o i = absurd i
from_tables first link (y ∷ ys) o i =
    elim (in_append o (numbered first (first + sizes ys) ys) (map (table_of y.shape link) y.tables) i) [
      | inl j ↦ let r = from_tables first (first + sizes ys) ys o j in record {
        layer = r.layer;
        among = inr r.among;
        run = r.run;
        there = r.there;
        link = r.link;
        is = r.is;
      }
      | inr j ↦ let m = from_map (table_of y.shape link) o y.tables j in record {
        layer = y;
        among = inl refl;
        run = m.0;
        there = m.1;
        link = link;
        is = m.2;
      }
    ]

-- ---- pages

-- whole addresses that rise, rise by pages
pages_rise : (frames : ℕ) (ps : List Page) → ((p : Page) → IsIn p ps → p.vaddr % 4096 ≡ 0)
    → Rises (map (λ (p : Page). p.vaddr) ps) → Rises (map (λ (x : Mapping). x.at / 4096) (map (page_mapping frames) ps))
pages_rise frames [] whole r = r
pages_rise frames (p ∷ []) whole r = (tt, tt)
pages_rise frames (p ∷ q ∷ ps) whole r =
    let a = div-add-mod p.vaddr 4096 in let b = div-add-mod q.vaddr 4096 in
    let c = whole p (inl refl) in
    (omega (arith, a, b, c, whole q (inr (inl refl)), r.0), pages_rise frames (q ∷ ps) (λ z i. whole z (inr i)) r.1)

-- ---- the root

root_of : (a : Arch) (x : Mapping) (xs : List Mapping) (first : ℕ)
    → ((y : Mapping) → IsIn y (x ∷ xs) → y.at < root_span (shapes a))
    → (o : Object) × (slice_get (tables_of first (shapes a) (x ∷ xs)) 0 ≡ Some o) × (is_root_object a (Some o) ≡ true)
root_of Arm11 x xs first h =
    let l = shape Directory (2 ^ 20) 4096 in
    let r = root_first (shape Table (2 ^ 12) 256 ∷ []) l x xs first h in
    (objects.Pages l.level r.0, r.1, refl)
root_of Aarch64 x xs first h =
    let l = shape Global (2 ^ 39) 512 in
    let r = root_first (shape Table (2 ^ 12) 512 ∷ shape Directory (2 ^ 21) 512 ∷ shape Upper (2 ^ 30) 512 ∷ []) l x xs first h in
    (objects.Pages l.level r.0, r.1, refl)

module _ (t : Tables) where
  -- there are as many tables, wherever they and the frames stand
  pub as_long : (first frames a b d : ℕ) → length (tables_at t first frames d) ≡ length (tables_at t a b d)
  as_long first frames a b d = tables_counted t first frames d ∙ sym (tables_counted t a b d)

  -- wherever they stand, as many are there
  pub moved : (first frames a b d j : ℕ) (o : Object) → slice_get (tables_at t first frames d) j ≡ Some o
      → (p : Object) × (slice_get (tables_at t a b d) j ≡ Some p)
  moved first frames a b d j o e =
      let l = slice_get_within (tables_at t first frames d) j o e in
      at_place (tables_at t a b d) j (omega (arith, l, as_long first frames a b d))

  -- the tables of a domain, as they stand in the spec
  abbrev pub standing : ℕ → List Object
  standing d = tables_at t (place t (TableOf d 0)) (place t (FrameOf 0)) d

  pub object_is : (d j : ℕ) (o : Object) → slice_get (standing d) j ≡ Some o → object t (TableOf d j) ≡ o
  object_is d j o e = get_or_from_slice_get (standing d) j o objects.Endpoint e

  pub stands_there : (d j : ℕ) (x : Domain) (o : Object) → slice_get t.flat.domains d ≡ Some x → slice_get (standing d) j ≡ Some o
      → IsThere t (TableOf d j)
  stands_there d j x o h e = ((x, h), moved (place t (TableOf d 0)) (place t (FrameOf 0)) 0 0 d j o e)

  module _ (fit : IsFit t) (d : ℕ) (x : Domain) (here : slice_get t.flat.domains d ≡ Some x) where
    abbrev pub mappings : List Mapping
    mappings = map (page_mapping (place t (FrameOf 0))) (pages_at t d)

    below : (y : Mapping) → IsIn y mappings → y.at < root_span (shapes (arch t))
    below y i =
        let m = from_map (page_mapping (place t (FrameOf 0))) y (pages_at t d) i in
        subst (λ (z : Mapping). z.at < root_span (shapes (arch t))) m.2 ((fit.domains d x here).pages m.0 m.1).below

    root_there : (ms : List Mapping) → ms ≡ mappings → (p : Page) → IsIn p (pages_at t d)
        → (o : Object) × (slice_get (standing d) 0 ≡ Some o) × (is_root_object (arch t) (Some o) ≡ true)
    root_there [] e p i = absurd (none (pages_at t d) i e) where
      none : (ps : List Page) → IsIn p ps → [] ≡ map (page_mapping (place t (FrameOf 0))) ps → ⊥
      none [] i e = i
      none (q ∷ ps) i e = search (rules)
    root_there (m ∷ ms) e p i =
        let first = place t (TableOf d 0) in
        let r = root_of (arch t) m ms first (λ y j. below y (subst (λ z. IsIn y z) e j)) in
        (r.0, ap (λ z. slice_get (tables_of first (shapes (arch t)) z) 0) (sym e) ∙ r.1, r.2)

    pub root_kept : (p : Page) → IsIn p (pages_at t d) → is_space_root (spec_of t) (place t (TableOf d 0)) ≡ true
    root_kept p i =
        let r = root_there mappings refl p i in
        ap (λ o. is_root_object (arch t) o) (object_there t (TableOf d 0) (stands_there d 0 x r.0 here r.1)
        ∙ ap (λ z. Some z) (object_is d 0 r.0 r.1)) ∙ r.2

    -- ---- slots

    frame_there : (f : ℕ) → f < length t.spaces.frames → IsThere t (FrameOf f)
    frame_there f l = at_place t.spaces.frames f l

    frame_kind : (f : ℕ) (h : IsThere t (FrameOf f)) → kind_of_object (object t (FrameOf f)) ≡ kinds.Frame
    frame_kind f h = ap (λ z. kind_of_object (option_map_or frame_object z objects.Endpoint)) h.1

    pub frame_fits : (f : ℕ) (r : Rights) → f < length t.spaces.frames → within r (kind_rights kinds.Frame) ≡ true
        → fits_as (spec_of t) kinds.Frame (cap (place t (FrameOf f)) r 0) ≡ true
    frame_fits f r l s = let h = frame_there f l in fits_as_of t (FrameOf f) kinds.Frame kinds.Frame r 0 h (frame_kind f h)
        refl (s, refl)

    -- pages are read and written at most
    page_suits : (p : Page) → within (page_rights p) (kind_rights kinds.Frame) ≡ true
    page_suits p = search (rules)

    page_fits : (level : Level) (c : Cap) → level ≡ Table → (y : Mapping) → IsIn y mappings → c ≡ y.cap
        → fits_as (spec_of t) (child level) c ≡ true
    page_fits level c lowest y i same =
        let m = from_map (page_mapping (place t (FrameOf 0))) y (pages_at t d) i in
        let at : place t (FrameOf m.0.frame) ≡ place t (FrameOf 0) + m.0.frame = omega arith in
        let moved_cap : cap (place t (FrameOf m.0.frame)) (page_rights m.0) 0 ≡ c = search (rules) in
        subst (λ l. fits_as (spec_of t) (child l) c ≡ true) (sym lowest) (subst (λ z. fits_as (spec_of t) kinds.Frame z ≡ true)
        moved_cap (frame_fits m.0.frame (page_rights m.0) ((fit.domains d x here).pages m.0 m.1).frame (page_suits m.0)))

    table_fits : (level : Level) (c : Cap) → IsChild (place t (TableOf d 0)) (standing d) level c
        → fits_as (spec_of t) (child level) c ≡ true
    table_fits level c k =
        let kind : kind_of_object (object t (TableOf d k.place)) ≡ kinds.Pages k.below = search (rules, object_is) in
        let f = fits_as_of t (TableOf d k.place) (kinds.Pages k.below) (kinds.Pages k.below) NONE 0
        (stands_there d k.place x (objects.Pages k.below k.slots) here k.there) kind
        (eq-eqb (kind_number (kinds.Pages k.below)) (kind_number (kinds.Pages k.below)) refl) (refl, refl) in
        let at : place t (TableOf d k.place) ≡ place t (TableOf d 0) + k.place = omega arith in
        subst (λ l. fits_as (spec_of t) l c ≡ true) (sym k.child)
        (subst (λ z. fits_as (spec_of t) (kinds.Pages k.below) z ≡ true) (ap (λ o. cap o NONE 0) at ∙ sym k.is) f)

    -- ---- tables

    table_kept : (level : Level) (slots : List (ℕ × Cap)) → IsIn (objects.Pages level slots) (standing d) → (ys : Layer)
        → IsIn ys (layers (shapes (arch t)) mappings) → (r : List Mapping) → IsIn r ys.tables → (link : ℕ)
        → level ≡ ys.shape.level → slots ≡ map (slot_of ys.shape link) r → keeps (spec_of t) (objects.Pages level slots) ≡ true
    table_kept level slots i y j r k link same are =
        let entries = y.shape.entries in
        let sized : size (arch t) level ≡ Some entries = search (rules, shapes_are_sized, shape_of_layer) in
        let whole = (fit.domains d x here) in
        let risen = pages_rise (place t (FrameOf 0)) (pages_at t d) (λ p q. (whole.pages p q).aligned) whole.rise in
        let ordered : rise slots ≡ true = ap rise are ∙ kept_rise (arch t) mappings risen y j r k link in
        let test : ℕ × Cap → Bool = λ slot. nat_lt slot.0 entries && fits_as (spec_of t) (child level) slot.1 in
        let each : (slot : ℕ × Cap) → IsIn slot slots → test slot ≡ true = λ slot s.
        and_from (nat_lt slot.0 entries) (fits_as (spec_of t) (child level) slot.1)
        (lt-ltb slot.0 entries (slots_below (arch t) mappings y j r link slot (subst (λ z. IsIn slot z) are s)))
        (elim (slots_lead (arch t) mappings (place t (TableOf d 0)) level slots slot i s) [
          | inl h ↦ page_fits level slot.1 h.0 h.1.0 h.1.1 h.1.2
          | inr c ↦ table_fits level slot.1 c
        ]) in
        ap (λ n. keeps_table (spec_of t) level n slots) sized ∙ and_from (rise slots) (list_all test slots) ordered
        (all_pass test slots each)

    pub standing_kept : (j : ℕ) (o : Object) → slice_get (standing d) j ≡ Some o → keeps (spec_of t) o ≡ true
    standing_kept j o e =
        let i = in_place o (standing d) j e in
        let r = from_tables (place t (TableOf d 0)) 0 (layers (shapes (arch t)) mappings) o i in
        search (rules, table_kept)

    pub tables_kept : (j : ℕ) → IsThere t (TableOf d j) → keeps (spec_of t) (object t (TableOf d j)) ≡ true
    tables_kept j h =
        let m = moved 0 0 (place t (TableOf d 0)) (place t (FrameOf 0)) d j h.1.0 h.1.1 in
        subst (λ z. keeps (spec_of t) z ≡ true) (sym (object_is d j m.0 m.1)) (standing_kept j m.0 m.1)
