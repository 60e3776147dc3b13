-- The spec of a tree in which no fault stands keeps what every spec keeps.
use Rattle.std.proofs.Common.{rules}
use Rattle.capdl_read.proofs.Common.{Arch, Bool, CapdlUnknown, FrameField, Holder, IrqLine, IsBelow, IsKept, Kind, KindLine, Known, Knows, List, None, ObjectLine, Option, SlotKey, SlotLine, Some, Spec, SpecTree, Tcb, Text, TextFault, ThreadField, []}
use Rattle.capdl_read.proofs.Common.{and_from, and_parts, ap, are_bits, arith, at_id, bytes_eq, bytes_eq-Decides, cap_said, cond, cond_nil, differ, entry_said, eqb-true, false, fields_from, fields_twice, fill_of, fill_off, fill_or, fill_said, fits}
use Rattle.capdl_read.proofs.Common.{fits_as, fits_kind, flat_map, flat_map_nil, frame_value_off, held, holder_off, if_any, inl, inr, insert_entry, irq_keyed, irq_off, is_at, is_kind, is_root_object, is_space_root, keeps, keeps_cnode, keeps_fill}
use Rattle.capdl_read.proofs.Common.{keeps_lines, keeps_table, keeps_tcb, keys_twice, kind_at, kind_fields, kind_of_object, kind_off, kind_said, known_as, knows, leb, length, length-map, limits, lines_from, list_all, list_any, map, most_objects}
use Rattle.capdl_read.proofs.Common.{names_twice, nat_cmp, nil_append, no_tcb, not, not-true, object_said, off_in, option_map, or_parts, paddr_or, paddr_said, param_off, past, past_in, place_or, place_said, put_field, refl, rise, same_kind, size_of}
use Rattle.capdl_read.proofs.Common.{size_said, slice_get, slot_off, slot_ranges, slots_off, slots_past, slots_said, spec_of, subst, suc, sym, takes, thread_said, thread_value_off, tree_faults, true, twice_in, twices, unknown, unknown_in, unknowns}
use Rattle.capdl_read.proofs.Common.{zero, ℕ, ◌%◌, ◌++◌, ◌+◌, ◌==◌, ◌^◌, ◌∙◌, ◌∷◌, ◌≡◌, ◌≤◌, ◌⊎◌}
use Rattle.std.specs.Option.{is_some}
use Rattle.std.proofs.lemmas.Option.{slice_get-map}
use Rattle.cap_model.specs.declared.kind.Kind.TheVariants as kinds
use Rattle.cap_model.specs.declared.level.Level.{Level}
use Rattle.cap_model.specs.Kept.{names_differ as entries_differ}
use Rattle.cap_model.specs.Levels.{size, child}
use Rattle.cap_model.specs.Lookup.{entry_object, object_at}
use Rattle.capdl_text.specs.KindField.{is_space_root as is_root_kind}
use Rattle.capdl_text.proofs.Few.{none_past}
use Rattle.capdl_text.specs.declared.tree.FillLine.{FillLine}
use Rattle.capdl_text.specs.declared.tree.FrameValue.{FrameValue}
use Rattle.capdl_text.specs.declared.tree.FrameValue.TheVariants as frame
use Rattle.capdl_text.specs.declared.tree.KindLine.TheVariants as line
use Rattle.capdl_text.specs.declared.tree.SlotKey.TheVariants as keys
use Rattle.capdl_text.specs.declared.tree.ThreadValue.{ThreadValue}
use Rattle.capdl_text.specs.declared.tree.ThreadValue.TheVariants as thread
use Rattle.capdl_read.proofs.Named.{names_differ, known_there, known_here}
use Rattle.capdl_read.proofs.Slots.{rights_fit, badge_fits, AllGood, all_good, IsFit, AllFit, said_kept, IsNamed, AllNamed, Fits, named_fit, named_prio, IsHeld, AllHeld, held_fits}
use Rattle.capdl_read.proofs.Sorted.{rise_insert, all_insert, lacks, parts_differ, differ_insert}

-- ---- kinds

kind_is : (known : Knows) (k : KindLine) (ss : List SlotLine) → kind_of_object (object_said known k ss) ≡ kind_said k
kind_is known line.Endpoint ss = refl
kind_is known line.Notification ss = refl
kind_is known (line.CNode bits) ss = refl
kind_is known (line.Thread fs) ss = refl
kind_is known (line.Frame fs) ss = refl
kind_is known (line.Pages level place) ss = refl
kind_is known line.Irq ss = refl

root_is : (arch : Arch) (known : Knows) (k : KindLine) (ss : List SlotLine)
    → is_root_object arch (Some (object_said known k ss)) ≡ is_root_kind arch (kind_said k)
root_is arch known line.Endpoint ss = refl
root_is arch known line.Notification ss = refl
root_is arch known (line.CNode bits) ss = refl
root_is arch known (line.Thread fs) ss = refl
root_is arch known (line.Frame fs) ss = refl
root_is arch known (line.Pages level place) ss = refl
root_is arch known line.Irq ss = refl

-- ---- fields

put_prio : (v : ThreadValue) (tcb : Tcb) → thread_value_off v ≡ [] → leb tcb.prio 255 ≡ true
    → leb (put_field v tcb).prio 255 ≡ true
put_prio (thread.Addr n) tcb e p = p
put_prio (thread.Ip n) tcb e p = p
put_prio (thread.Sp n) tcb e p = p
put_prio (thread.Prio n) tcb e p = cond_nil (leb n.value 255) _ e
put_prio (thread.Elf text) tcb e p = p

fields_prio : (tcb : Tcb) (fs : List ThreadField) → flat_map (λ f. thread_value_off f.value) fs ≡ [] → leb tcb.prio 255 ≡ true
    → leb (fields_from tcb fs).prio 255 ≡ true
fields_prio tcb [] e p = p
fields_prio tcb (f ∷ fs) e p =
    let q = nil_append (thread_value_off f.value) (flat_map (λ f. thread_value_off f.value) fs) e in
    fields_prio (put_field f.value tcb) fs q.1 (put_prio f.value tcb q.0 p)

-- no slot is set by fields
abbrev NoSlots : Tcb → Type 0
NoSlots tcb = (tcb.cspace ≡ None) × (tcb.vspace ≡ None) × (tcb.buffer ≡ None)

put_slots : (v : ThreadValue) (tcb : Tcb) → NoSlots tcb → NoSlots (put_field v tcb)
put_slots (thread.Addr n) tcb p = p
put_slots (thread.Ip n) tcb p = p
put_slots (thread.Sp n) tcb p = p
put_slots (thread.Prio n) tcb p = p
put_slots (thread.Elf text) tcb p = p

fields_slots : (tcb : Tcb) (fs : List ThreadField) → NoSlots tcb → NoSlots (fields_from tcb fs)
fields_slots tcb [] p = p
fields_slots tcb (f ∷ fs) p = fields_slots (put_field f.value tcb) fs (put_slots f.value tcb p)

paddr_fits : (fs : List FrameField) → flat_map (λ f. frame_value_off f.value) fs ≡ []
    → if_any (λ p. p % 4096 == 0) (paddr_said fs) ≡ true
paddr_fits [] e = refl
paddr_fits (f ∷ fs) e =
    let q = nil_append (frame_value_off f.value) (flat_map (λ f. frame_value_off f.value) fs) e in
    go f.value q.0 (paddr_fits fs q.1)
  where
    go : (v : FrameValue) → frame_value_off v ≡ [] → if_any (λ p. p % 4096 == 0) (paddr_said fs) ≡ true
        → if_any (λ p. p % 4096 == 0) (paddr_or v (paddr_said fs)) ≡ true
    go (frame.Paddr n) e ih = cond_nil (n.value % 4096 == 0) _ e
    go (frame.Fill fill) e ih = ih

fill_fits : (fs : List FrameField) → flat_map (λ f. frame_value_off f.value) fs ≡ [] → if_any keeps_fill (fill_said fs) ≡ true
fill_fits [] e = refl
fill_fits (f ∷ fs) e =
    let q = nil_append (frame_value_off f.value) (flat_map (λ f. frame_value_off f.value) fs) e in
    go f.value q.0 (fill_fits fs q.1)
  where
    one : (fill : Option FillLine) → fill_off fill ≡ [] → if_any keeps_fill (option_map fill_of fill) ≡ true
    one None e = refl
    one (Some f) e = cond_nil (keeps_fill (fill_of f)) _ e

    go : (v : FrameValue) → frame_value_off v ≡ [] → if_any keeps_fill (fill_said fs) ≡ true
        → if_any keeps_fill (fill_or v (fill_said fs)) ≡ true
    go (frame.Paddr n) e ih = ih
    go (frame.Fill fill) e ih = one fill e

-- ---- holders

held_cases : (hs : List Holder) (n : List ℕ) → (held hs n ≡ []) ⊎ ((i : ℕ) × (h : Holder) × (slice_get hs i ≡ Some h)
    × (n ≡ h.id.name) × (held hs n ≡ h.slots))
held_cases [] n = inl refl
held_cases (h ∷ hs) n = go (bytes_eq n h.id.name) refl (held_cases hs n)
  where
    go : (b : Bool) → bytes_eq n h.id.name ≡ b → (held hs n ≡ []) ⊎ ((i : ℕ) × (g : Holder) × (slice_get hs i ≡ Some g)
        × (n ≡ g.id.name) × (held hs n ≡ g.slots))
        → (cond b h.slots (held hs n) ≡ []) ⊎ ((i : ℕ) × (g : Holder) × (slice_get (h ∷ hs) i ≡ Some g) × (n ≡ g.id.name)
        × (cond b h.slots (held hs n) ≡ g.slots))
    go true e ih = inr (0, h, refl, (bytes_eq-Decides n h.id.name).0 e, refl)
    go false e ih = elim ih [ inl p ↦ inl p | inr p ↦ inr (suc p.0, p.1, p.2, p.3, p.4) ]

-- ---- the tree

module _ (t : SpecTree) (sound : tree_faults t ≡ []) where
  abbrev known : Knows
  known = knows t

  abbrev spec : Spec
  spec = spec_of t

  abbrev lines_of : ObjectLine → List SlotLine
  lines_of o = held t.holders o.id.name

  unknown_nil : unknowns known t ≡ []
  unknown_nil = (nil_append (unknowns known t) (twices t ++ (kind_fields known t ++ (slot_ranges known t ++ limits t))) sound).0

  after_unknown : twices t ++ (kind_fields known t ++ (slot_ranges known t ++ limits t)) ≡ []
  after_unknown = (nil_append (unknowns known t) (twices t ++ (kind_fields known t ++ (slot_ranges known t ++ limits t))) sound).1

  twice_nil : twices t ≡ []
  twice_nil = (nil_append (twices t) (kind_fields known t ++ (slot_ranges known t ++ limits t)) after_unknown).0

  after_twice : kind_fields known t ++ (slot_ranges known t ++ limits t) ≡ []
  after_twice = (nil_append (twices t) (kind_fields known t ++ (slot_ranges known t ++ limits t)) after_unknown).1

  kind_nil : kind_fields known t ≡ []
  kind_nil = (nil_append (kind_fields known t) (slot_ranges known t ++ limits t) after_twice).0

  after_kind : slot_ranges known t ++ limits t ≡ []
  after_kind = (nil_append (kind_fields known t) (slot_ranges known t ++ limits t) after_twice).1

  range_nil : slot_ranges known t ≡ []
  range_nil = (nil_append (slot_ranges known t) (limits t) after_kind).0

  limit_nil : limits t ≡ []
  limit_nil = (nil_append (slot_ranges known t) (limits t) after_kind).1

  -- the rows of what stands twice
  abbrev names_a : List TextFault
  names_a = names_twice (map (λ o. o.id) t.objects)

  abbrev fields_b : List TextFault
  fields_b = flat_map (λ o. fields_twice o.kind) t.objects

  abbrev names_c : List TextFault
  names_c = names_twice (map (λ h. h.id) t.holders)

  abbrev slots_d : List TextFault
  slots_d = flat_map twice_in t.holders

  abbrev numbers_e : List TextFault
  numbers_e = keys_twice [] (map irq_keyed t.irqs)

  abbrev names_f : List TextFault
  names_f = names_twice (map (λ l. l.object) t.irqs)

  rows : ((((names_a ++ fields_b) ++ names_c) ++ slots_d) ++ numbers_e ≡ []) × (names_f ≡ [])
  rows = nil_append ((((names_a ++ fields_b) ++ names_c) ++ slots_d) ++ numbers_e) names_f twice_nil

  objects_once : names_a ≡ []
  objects_once = search (rules, nil_append, rows)

  differs : differ bytes_eq (map (λ i. i.name) (map (λ o. o.id) t.objects)) ≡ true
  differs = names_differ (map (λ o. o.id) t.objects) objects_once

  -- ---- names

  names_same : (os : List ObjectLine) → map (λ e. e.name) (map (entry_said known t.holders) os) ≡ map (λ i. i.name)
      (map (λ o. o.id) os)
  names_same [] = refl
  names_same (o ∷ os) = ap (λ z. o.id.name ∷ z) (names_same os)

  names_kept : entries_differ spec.entries ≡ true
  names_kept = ap (differ bytes_eq) (names_same t.objects) ∙ differs

  few_objects : length t.objects ≤ most_objects
  few_objects = search (rules, nil_append, limit_nil, none_past, length-map)

  -- what a name stands for is an object of the spec, of that kind
  there : (n : List ℕ) (k : Known) → known n ≡ Some k → (kind_at spec k.place ≡ Some k.kind)
      × (is_root_object spec.arch (object_at spec k.place) ≡ is_root_kind t.arch k.kind)
  there n k e = search (rules, known_there, slice_get-map, kind_is, root_is)

  -- the capability of a slot
  module _ (s : SlotLine) (k : Known) (is : known s.object.name ≡ Some k) where
    place_is : place_said known s ≡ k.place
    place_is = ap place_or is

    kind_here : kind_at spec (place_said known s) ≡ Some k.kind
    kind_here = ap (kind_at spec) place_is ∙ (there s.object.name k is).0

    at_is : (kind : Kind) → is_at spec kind (place_said known s) ≡ same_kind k.kind kind
    at_is kind = ap (λ (z : Option Kind). is_kind z kind) kind_here

    root_here : is_space_root spec (place_said known s) ≡ is_root_kind t.arch k.kind
    root_here = ap (λ z. is_root_object spec.arch (object_at spec z)) place_is ∙ (there s.object.name k is).1

    cap_fits : flat_map (param_off k.kind) s.params ≡ [] → fits spec (cap_said known s) ≡ true
    cap_fits e = ap (λ (z : Option Kind). fits_kind z (cap_said known s)) kind_here ∙ and_from _ _ (rights_fit k.kind s.params e)
        (badge_fits k.kind s.params e)

  -- ---- holders

  good_lines : (j : ℕ) (o : ObjectLine) → slice_get t.objects j ≡ Some o → AllGood t.arch known (known_as t.arch j o) (lines_of o)
  good_lines j o g =
      search (rules, held_cases, known_here, differs, nil_append, flat_map_nil, unknown_nil, kind_nil, range_nil, all_good)

  abbrev held_by : ℕ → Kind → Option ℕ → Known
  held_by j kind size = record { place = j; kind = kind; size = size }

  node_fit : (j n : ℕ) (ss : List SlotLine) → AllGood t.arch known (held_by j kinds.CNode (Some n)) ss
      → AllFit t.arch known (fits spec) n ss
  node_fit j n [] g = tt
  node_fit j n (s ∷ ss) g = (one s.key (g.0).below (cap_fits s (g.0).object (g.0).is (g.0).params), node_fit j n ss g.1)
    where
      one : (key : SlotKey) → IsBelow (Some n) key → fits spec (cap_said known s) ≡ true
          → IsFit t.arch known (fits spec) n key (cap_said known s)
      one (keys.Number m) b f = and_from _ _ b f
      one keys.Cspace b f = tt
      one keys.Vspace b f = tt
      one keys.Buffer b f = tt

  table_fit : (j n : ℕ) (level : Level) (ss : List SlotLine) → AllGood t.arch known (held_by j (kinds.Pages level) (Some n)) ss
      → AllFit t.arch known (fits_as spec (child level)) n ss
  table_fit j n level [] g = tt
  table_fit j n level (s ∷ ss) g = (one s.key (g.0).below (g.0).takes, table_fit j n level ss g.1)
    where
      one : (key : SlotKey) → IsBelow (Some n) key → takes t.arch (Some (held_by j (kinds.Pages level) (Some n))) key
          (g.0).object.kind s.params ≡ true → IsFit t.arch known (fits_as spec (child level)) n key (cap_said known s)
      one (keys.Number m) b f =
          and_from _ _ b (and_from _ _ (at_is s (g.0).object (g.0).is (child level) ∙ f)
          (cap_fits s (g.0).object (g.0).is (g.0).params))
      one keys.Cspace b f = tt
      one keys.Vspace b f = tt
      one keys.Buffer b f = tt

  named_all : (h : Known) (ss : List SlotLine) → AllGood t.arch known h ss
      → AllNamed t.arch known (is_at spec kinds.CNode) (is_space_root spec) (fits_as spec kinds.Frame) ss
  named_all h [] g = tt
  named_all h (s ∷ ss) g = (one s.key (g.0).takes, named_all h ss g.1)
    where
      one : (key : SlotKey) → takes t.arch (Some h) key (g.0).object.kind s.params ≡ true
          → IsNamed t.arch known (is_at spec kinds.CNode) (is_space_root spec) (fits_as spec kinds.Frame) key (cap_said known s)
      one (keys.Number m) f = tt
      one keys.Cspace f = at_is s (g.0).object (g.0).is kinds.CNode ∙ f
      one keys.Vspace f = root_here s (g.0).object (g.0).is ∙ f
      one keys.Buffer f = and_from _ _ (at_is s (g.0).object (g.0).is kinds.Frame ∙ f)
          (cap_fits s (g.0).object (g.0).is (g.0).params)

  held_all : (j : ℕ) (size : Option ℕ) (ss : List SlotLine) → AllGood t.arch known (held_by j kinds.Irq size) ss
      → AllHeld t.arch known (is_at spec kinds.Notification) ss
  held_all j size [] g = tt
  held_all j size (s ∷ ss) g = (one s.key (g.0).takes, held_all j size ss g.1)
    where
      one : (key : SlotKey) → takes t.arch (Some (held_by j kinds.Irq size)) key (g.0).object.kind s.params ≡ true
          → IsHeld t.arch known (is_at spec kinds.Notification) key (place_said known s)
      one (keys.Number m) f = at_is s (g.0).object (g.0).is kinds.Notification
          ∙ (and_parts (same_kind (g.0).object.kind kinds.Notification) _ f).0
      one keys.Cspace f = tt
      one keys.Vspace f = tt
      one keys.Buffer f = tt

  -- ---- objects

  node_kept : (j n : ℕ) (ss : List SlotLine) → are_bits n ≡ true
      → AllGood t.arch known (held_by j kinds.CNode (cond (are_bits n) (Some (2 ^ n)) None)) ss
      → keeps_cnode spec n (slots_said known ss) ≡ true
  node_kept j n ss b g = search (rules, and_from, said_kept, node_fit)

  table_kept : (j : ℕ) (level : Level) (size : Option ℕ) (ss : List SlotLine) → is_some size ≡ true
      → AllGood t.arch known (held_by j (kinds.Pages level) size) ss → keeps_table spec level size (slots_said known ss) ≡ true
  table_kept j level None ss b g = absurd cc
  table_kept j level (Some n) ss b g = said_kept t.arch known (fits_as spec (child level)) n ss (table_fit j n level ss g)

  tcb_kept : (h : Known) (fs : List ThreadField) (ss : List SlotLine) → flat_map (λ f. thread_value_off f.value) fs ≡ []
      → AllGood t.arch known h ss → keeps_tcb spec (thread_said known fs ss) ≡ true
  tcb_kept h fs ss e g = search (rules, fields_slots, named_fit, named_all, named_prio, fields_prio, and_from)

  kind_kept : (j : ℕ) (k : KindLine) (ss : List SlotLine) → kind_off t.arch k ≡ []
      → AllGood t.arch known (held_by j (kind_said k) (size_said t.arch k)) ss → keeps spec (object_said known k ss) ≡ true
  kind_kept j line.Endpoint ss e g = refl
  kind_kept j line.Notification ss e g = refl
  kind_kept j (line.CNode bits) ss e g = node_kept j bits.value ss (cond_nil (are_bits bits.value) _ e) g
  kind_kept j (line.Thread fs) ss e g = tcb_kept (held_by j kinds.Thread None) fs ss e g
  kind_kept j (line.Frame fs) ss e g = and_from _ _ (paddr_fits fs e) (fill_fits fs e)
  kind_kept j (line.Pages level place) ss e g =
      table_kept j level (size t.arch level) ss (cond_nil (is_some (size t.arch level)) _ e) g
  kind_kept j line.Irq ss e g = held_fits t.arch known (is_at spec kinds.Notification) ss (held_all j (Some 1) ss g)

  objects_from : (os : List ObjectLine) → ((i : ℕ) (o : ObjectLine) → slice_get os i ≡ Some o
      → keeps spec (object_said known o.kind (lines_of o)) ≡ true)
      → list_all (λ e. keeps spec e.object) (map (entry_said known t.holders) os) ≡ true
  objects_from [] h = refl
  objects_from (o ∷ os) h = and_from _ _ (h zero o refl) (objects_from os (λ i p g. h (suc i) p g))

  objects_kept : list_all (λ e. keeps spec e.object) spec.entries ≡ true
  objects_kept = search (rules, nil_append, kind_nil, objects_from, kind_kept, flat_map_nil, good_lines)

  -- ---- interrupt lines

  abbrev place_of : IrqLine → ℕ
  place_of l = place_or (known l.object.name)

  abbrev Sound : IrqLine → Type 0
  Sound l = (k : Known) × (known l.object.name ≡ Some k) × (same_kind k.kind kinds.Irq ≡ true)

  abbrev AllSound : List IrqLine → Type 0
  AllSound [] = Unit {0}
  AllSound (l ∷ ls) = Sound l × AllSound ls

  sound_one : (l : IrqLine) (o : Option Known) → known l.object.name ≡ o → unknown known l.object ≡ []
      → irq_off l.object (known l.object.name) ≡ [] → Sound l
  sound_one l None e u f =
      absurd (let p : false ≡ true = rw e at (cond_nil (is_some (known l.object.name)) (at_id CapdlUnknown l.object) u) in cc)
  sound_one l (Some k) e u f = (k, e, cond_nil (same_kind k.kind kinds.Irq) _ (rw e at f))

  sound_all : (ls : List IrqLine) → flat_map (λ l. unknown known l.object) ls ≡ []
      → flat_map (λ l. irq_off l.object (known l.object.name)) ls ≡ [] → AllSound ls
  sound_all [] u f = tt
  sound_all (l ∷ ls) u f =
      let p = nil_append (unknown known l.object) (flat_map (λ l. unknown known l.object) ls) u in
      let q = nil_append (irq_off l.object (known l.object.name)) (flat_map (λ l. irq_off l.object (known l.object.name)) ls) f in
      (sound_one l (known l.object.name) refl p.0 q.0, sound_all ls p.1 q.1)

  -- different names stand for different objects
  places_apart : (n m : List ℕ) (k q : Known) → known n ≡ Some k → known m ≡ Some q → bytes_eq m n ≡ false
      → not (k.place == q.place) ≡ true
  places_apart n m k q e f d = search (rules, slice_get, known_there, eqb-true, bytes_eq-Decides)

  abbrev AllLacked : List (ℕ × ℕ) → List IrqLine → Type 0
  AllLacked done [] = Unit {0}
  AllLacked done (l ∷ ls) = (lacks (place_of l) done ≡ true) × AllLacked done ls

  abbrev put : List (ℕ × ℕ) → IrqLine → List (ℕ × ℕ)
  put done l = insert_entry nat_cmp done l.number.value (place_of l)

  lacked_more : (done : List (ℕ × ℕ)) (l : IrqLine) (ls : List IrqLine) → Sound l → AllSound ls
      → list_any (λ n. bytes_eq n l.object.name) (map (λ i. i.name) (map (λ l. l.object) ls)) ≡ false → AllLacked done ls
      → AllLacked (put done l) ls
  lacked_more done l [] s a d g = tt
  lacked_more done l (m ∷ ls) s a d g =
      let p = or_parts (bytes_eq m.object.name l.object.name) _ d in
      let apart : not (s.0.place == a.0.0.place) ≡ true = places_apart l.object.name m.object.name s.0 a.0.0 s.1 a.0.1 p.0 in
      let apart' : not (place_of l == place_of m) ≡ true = search (rules) in
      (all_insert (λ x. not (x.1 == place_of m)) done l.number.value (place_of l) g.0 apart', lacked_more done l ls s a.1 p.1 g.1)

  lines_from_kept : (done : List (ℕ × ℕ)) (ls : List IrqLine) → AllSound ls
      → differ bytes_eq (map (λ i. i.name) (map (λ l. l.object) ls)) ≡ true → AllLacked done ls → rise done ≡ true
      → parts_differ done ≡ true → list_all (λ x. is_at spec kinds.Irq x.1) done ≡ true
      → keeps_lines spec (lines_from known done ls) ≡ true
  lines_from_kept done [] a d g r p k = and_from _ _ (and_from _ _ r p) k
  lines_from_kept done (l ∷ ls) a d g r p k =
      let q = and_parts (not (list_any (λ n. bytes_eq n l.object.name) (map (λ i. i.name) (map (λ l. l.object) ls)))) _ d in
      let kind : is_at spec kinds.Irq (place_of l) ≡ true = search (rules, there) in
      lines_from_kept (put done l) ls a.1 q.1 (lacked_more done l ls a.0 a.1 (not-true _ q.0) g.1)
      (rise_insert done l.number.value (place_of l) r) (differ_insert done l.number.value (place_of l) g.0 p)
      (all_insert (λ x. is_at spec kinds.Irq x.1) done l.number.value (place_of l) k kind)

  nothing_lacked : (ls : List IrqLine) → AllLacked [] ls
  nothing_lacked [] = tt
  nothing_lacked (l ∷ ls) = (refl, nothing_lacked ls)

  lines_kept : keeps_lines spec spec.irqs ≡ true
  lines_kept = search (rules, nil_append, unknown_nil, kind_nil, lines_from_kept, sound_all, names_differ, rows, nothing_lacked)

  kept : IsKept spec
  kept = search (rules, few_objects, length-map, names_kept, objects_kept, lines_kept)

pub kept_text : (bytes : List ℕ) (s : Spec) → Text bytes s → IsKept s
kept_text bytes s a = subst IsKept (sym a.means) (kept a.tree a.sound)
