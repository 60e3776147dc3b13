-- What the page tables of a domain hold: tables of the same domain, and its pages; and that each of its pages is held.
use Rattle.spec_laws.proofs.Common.{Aarch64, Arch, Arm11, Cap, Contains, Directory, Domain, FrameOf, Global, InTable, IsIn, IsThere, Level, List, Mapping, Object, Option, Page, Shape, Some, Table, TableOf, Tables, Upper, [], ap, arch, arith}
use Rattle.spec_laws.proofs.Common.{at_contains, at_place, contains_at, domain_label, from_map, in_map, in_place, in_tables, inr, label_of, linked_none, map, object, object_at, object_there, page_mapping, page_rights, pages_at, place, place_of}
use Rattle.spec_laws.proofs.Common.{policy_tables, refl, rules, shape, shapes, slice_get, slice_get_within, slot_of, slots_lead, spec_of, subst, sym, tables_at, tables_of, ℕ, ◌+◌, ◌^◌, ◌∙◌, ◌∷◌, ◌≡◌, ◌⊎◌}
use Rattle.cap_model.specs.Auth.{table_of as slots_of}
use Rattle.cap_model.specs.declared.object.Object.TheVariants as objects
use Rattle.spec_laws.proofs.TablesKept.{moved, object_is, stands_there, standing}
use Rattle.spec_laws.proofs.Whose.{IsAt, label_there, labels, object_stands, of_pages}

module _ (t : Tables) where
  abbrev frame_first : ℕ
  frame_first = place t (FrameOf 0)

  abbrev mappings : ℕ → List Mapping
  mappings d = map (page_mapping frame_first) (pages_at t d)

  -- the capability of a page of the domain
  pub record IsPageCap (d : ℕ) (held : Cap) : Type 0 where
    pub page : Page
    pub there : IsIn page (pages_at t d)
    pub object : held.object ≡ place t (FrameOf page.frame)
    pub rights : held.rights ≡ page_rights page

  -- the capability to another table of the domain
  pub record IsTableCap (d : ℕ) (held : Cap) : Type 0 where
    pub number : ℕ
    pub there : IsThere t (TableOf d number)
    pub object : held.object ≡ place t (TableOf d number)

  -- what a page table has in a slot
  pub record InDomain (o : ℕ) (held : Cap) : Type 0 where
    pub domain : ℕ
    pub found : Domain
    pub here : slice_get t.flat.domains domain ≡ Some found
    pub label : label_of (labels t) o ≡ domain_label (policy_tables t) domain
    pub holds : IsPageCap domain held ⊎ IsTableCap domain held

  page_cap_of : (d : ℕ) (m : Mapping) → IsIn m (mappings d) → IsPageCap d m.cap
  page_cap_of d m i = search (rules, from_map)

  of_slot : (d : ℕ) (x : Domain) (level : Level) (slots : List (ℕ × Cap)) (slot : ℕ × Cap) → slice_get t.flat.domains d ≡ Some x
      → IsIn (objects.Pages level slots) (standing t d) → IsIn slot slots → IsPageCap d slot.1 ⊎ IsTableCap d slot.1
  of_slot d x level slots slot e there i = search (rules, slots_lead, page_cap_of, stands_there)

  from_pages : (o i : ℕ) (held : Cap) (level : Level) (slots : List (ℕ × Cap)) → IsAt t o (objects.Pages level slots)
      → Contains slots (i, held) → InDomain o held
  from_pages o i held level slots at there =
      let w = of_pages at.what at.sort in let d = w.0 in
      let j = w.1 in
      let here : IsThere t (TableOf d j) = subst (λ z. IsThere t z) w.2 at.there in
      let is : object t (TableOf d j) ≡ objects.Pages level slots = search (rules) in
      let m = moved t 0 0 (place t (TableOf d 0)) (place t (FrameOf 0)) d j here.1.0 here.1.1 in
      let table : IsIn (objects.Pages level slots) (standing t d) = search (rules, standing, object_is, in_place) in
      let k = contains_at slots (i, held) there in
      record {
        domain = d;
        found = here.0.0;
        here = here.0.1;
        label = sym (ap (label_of (labels t)) (subst (λ z. place t z ≡ o) w.2 at.stands)) ∙ label_there t (TableOf d j) here;
        holds = of_slot d here.0.0 level slots (i, held) here.0.1 table (in_place (i, held) slots k.0 k.1);
      }

  pub in_table : (o i : ℕ) (held : Cap) → InTable (spec_of t) o i held → InDomain o held
  in_table o i held there = go (object_at (spec_of t) o) refl there where
    go : (x : Option Object) → object_at (spec_of t) o ≡ x → Contains (slots_of x) (i, held) → InDomain o held
    go (Some (objects.Pages level slots)) h c =
        from_pages o i held level slots (object_stands t o (objects.Pages level slots) h) c
    go _ h c = absurd (let w = c.1 in omega arith)

  -- ---- each page is held

  some_shapes : (a : Arch) → (l : Shape) × (ls : List Shape) × (shapes a ≡ l ∷ ls)
  some_shapes Arm11 = (shape Table (2 ^ 12) 256, shape Directory (2 ^ 20) 4096 ∷ [], refl)
  some_shapes Aarch64 = (
    shape Table (2 ^ 12) 512,
    shape Directory (2 ^ 21) 512 ∷ shape Upper (2 ^ 30) 512
        ∷ shape Global (2 ^ 39) 512 ∷ [],
    refl,
  )

  -- the table that holds a page, and its slot
  pub record HeldIn (d : ℕ) (p : Page) : Type 0 where
    pub number : ℕ
    pub there : IsThere t (TableOf d number)
    pub slot : ℕ
    pub held : InTable (spec_of t) (place t (TableOf d number)) slot (page_mapping (place t (FrameOf 0)) p).cap

  pub page_held : (d : ℕ) (x : Domain) (p : Page) → slice_get t.flat.domains d ≡ Some x → IsIn p (pages_at t d) → HeldIn d p
  page_held d x p e i =
      let s = some_shapes (arch t) in let first = place t (TableOf d 0) in
      let m = page_mapping frame_first p in
      let w = in_tables s.0 s.1 (mappings d) first 0 m (in_map (page_mapping frame_first) p (pages_at t d) i) in
      let n = place_of w.0 (standing t d) (subst (λ ls. IsIn w.0 (tables_of first ls (mappings d))) (sym s.2) w.1) in
      let there = stands_there t d n.0 x w.0 e n.1 in
      let is : object_at (spec_of t) (place t (TableOf d n.0)) ≡ Some w.0 = object_there t (TableOf d n.0) there
      ∙ ap (λ z. Some z) (object_is t d n.0 w.0 n.1) in
      let slot = slot_of s.0 0 m in let k = place_of slot (slots_of (Some w.0)) w.2 in
      let inside : Contains (slots_of (Some w.0)) slot = at_contains (slots_of (Some w.0)) slot k.0 k.1 in
      let same : slot ≡ (slot.0, m.cap) = ap (λ z. (slot.0, z)) (linked_none m.cap) in
      let exact : Contains (slots_of (Some w.0)) (slot.0, m.cap) = subst (λ z. Contains (slots_of (Some w.0)) z) same inside in
      record {
        number = n.0;
        there = there;
        slot = slot.0;
        held = subst (λ z. Contains (slots_of z) (slot.0, m.cap))
            (sym is) exact;
      }

  -- so where there is a page there is a root
  pub root_there : (d : ℕ) (x : Domain) (p : Page) → slice_get t.flat.domains d ≡ Some x → IsIn p (pages_at t d)
      → IsThere t (TableOf d 0)
  root_there d x p e i =
      let w = page_held d x p e i in
      let l = slice_get_within (tables_at t 0 0 d) w.number w.there.1.0 w.there.1.1 in
      let o = at_place (tables_at t 0 0 d) 0 (omega (arith, l)) in
      ((x, e), (o.0, o.1))
