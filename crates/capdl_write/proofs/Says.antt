-- The tree of a canonical text says its spec.
use Rattle.capdl_write.proofs.Common.{Bool, CNode, Cap, Entry, Fill, Frame, Holder, Irq, IsKept, Knows, Level, List, None, Notification, Object, Option, Pages, Piece, Rights, SlotKey, SlotLine, Some, Span, Spec, Tcb, Thread, ThreadField}
use Rattle.capdl_write.proofs.Common.{[], and_from, and_parts, ap, append-nil, append_assoc, arith, badge_said, brace_r, bytes_eq, bytes_eq-Decides, cap_said, child, codes, entry_said, eqb-true, false, fields_from, fill_said, fits, fits_as}
use Rattle.capdl_write.proofs.Common.{has_rights, held, held_pieces, hex, holders_pieces, if_any, is_at, is_space_root, keeps, keeps_slots, keeps_table, keeps_tcb, leb, lines_from, list_all, map, name_at, named_from, names_differ, nat_lt, nat_tests}
use Rattle.capdl_write.proofs.Common.{no_tcb, not, not-true, notification_said, object_at, object_said, objects_pieces, paddr_said, paren_r, place_or, refl, rights_said, rise, size, slots_from, slots_pieces, sym, thread_said, true, word, ℕ, ◌&&◌}
use Rattle.capdl_write.proofs.Common.{rules, ◌++◌, ◌+◌, ◌==◌, ◌^◌, ◌||◌, ◌∙◌, ◌∷◌, ◌≡◌}
use Rattle.std.specs.BTreeMap.{insert_entry}
use Rattle.std.specs.Ordering.{nat_cmp}
use Rattle.cap_model.specs.declared.kind.Kind.TheVariants as kinds
use Rattle.capdl_text.specs.declared.tree.SlotKey.TheVariants as keys
use Rattle.capdl_text.specs.declared.tree.ThreadValue.TheVariants as thread
use Rattle.capdl_write.proofs.Known.{KnowsAll, is_other, differ_parts, known_place}
use Rattle.capdl_write.proofs.Named.{all_from}
use Rattle.capdl_write.proofs.ReadBack.{kind_at as kind_line_at, objects_at, addr_tail, ip_tail, sp_tail, prio_tail, field_at, with_elf, last_fields, fields_at, frame_fields}
use Rattle.capdl_write.proofs.ReadHolders.{no_rights_at, params_at}
use Rattle.capdl_write.proofs.ReadText.{cap_at, slots_at, buffer_at, vspace_at, cspace_at, irq_slot_at, lines_at, held_at, holders_at, irqs_at}
use Rattle.capdl_write.proofs.Sound.{fits_object, is_object, root_object}

-- ---- putting in by number

-- a number above all is put to the end
insert_end : {A : Type 0} (xs : List (ℕ × A)) (n : ℕ) (v : A) → list_all (λ x. nat_lt x.0 n) xs ≡ true
    → insert_entry nat_cmp xs n v ≡ xs ++ (n, v) ∷ []
insert_end [] n v h = refl
insert_end (x ∷ xs) n v h =
    let k = and_parts (nat_lt x.0 n) (list_all (λ x. nat_lt x.0 n) xs) h in
    rw (not_less x.0 n k.0, not_same x.0 n k.0) (ap (λ z. x ∷ z) (insert_end xs n v k.1))
  where
    not_less : (a b : ℕ) → nat_lt a b ≡ true → nat_lt b a ≡ false
    not_less a b h = grind (arith, nat_tests)

    not_same : (a b : ℕ) → nat_lt a b ≡ true → (b == a) ≡ false
    not_same a b h = grind (arith, nat_tests)

-- what stands before a number is below it
rise_below : {A : Type 0} (xs : List (ℕ × A)) (y : ℕ × A) (ys : List (ℕ × A)) → rise (xs ++ y ∷ ys) ≡ true
    → list_all (λ x. nat_lt x.0 y.0) xs ≡ true
rise_below [] y ys r = refl
rise_below (x ∷ []) y ys r = and_from _ _ (and_parts (nat_lt x.0 y.0) (rise (y ∷ ys)) r).0 refl
rise_below (x ∷ z ∷ xs) y ys r =
    let k = and_parts (nat_lt x.0 z.0) (rise (z ∷ xs ++ y ∷ ys)) r in
    let h = rise_below (z ∷ xs) y ys k.1 in
    and_from _ _ (on x.0 z.0 y.0 k.0 (and_parts (nat_lt z.0 y.0) (list_all (λ x. nat_lt x.0 y.0) xs) h).0) h
  where
    on : (a b c : ℕ) → nat_lt a b ≡ true → nat_lt b c ≡ true → nat_lt a c ≡ true
    on a b c p q = grind (arith, nat_tests)

-- ---- parameters

no_rights_is : (pl : List Piece → Span) (r : Rights) → has_rights r ≡ false → no_rights_at pl ≡ r
no_rights_is pl r h = search (rules, no_rights_at)

rights_back : (pl : List Piece → Span) (r b : Bool) (rights : Rights) (badge : ℕ) (more : List Piece)
    → (r ≡ false → no_rights_at pl ≡ rights) → rights_said (params_at pl r b rights badge more) ≡ rights
rights_back pl false false rights badge more h = h refl
rights_back pl true false rights badge more h = refl
rights_back pl false true rights badge more h = h refl
rights_back pl true true rights badge more h = refl

badge_back : (pl : List Piece → Span) (r b : Bool) (rights : Rights) (badge : ℕ) (more : List Piece) → (b ≡ false → 0 ≡ badge)
    → badge_said (params_at pl r b rights badge more) ≡ badge
badge_back pl false false rights badge more h = h refl
badge_back pl true false rights badge more h = h refl
badge_back pl false true rights badge more h = refl
badge_back pl true true rights badge more h = refl

zero_badge : (n : ℕ) → not (n == 0) ≡ false → 0 ≡ n
zero_badge n h = search (rules, eqb-true)

cap_of : (o : ℕ) (r : Rights) (n : ℕ) (c : Cap) → o ≡ c.object → r ≡ c.rights → n ≡ c.badge
    → (let d : Cap = record { object = o; rights = r; badge = n } in d) ≡ c
cap_of o r n c p q s = rw (p, q, s) refl

module _ (pl : List Piece → Span) (spec : Spec) (known : Knows) (all : KnowsAll spec known) where
  place_back : (place : ℕ) (o : Object) → object_at spec place ≡ Some o → place_or (known (name_at spec place)) ≡ place
  place_back place o h = let e = known_place spec known all place o h in rw e refl

  cap_back : (key : SlotKey) (p : Piece) (cap : Cap) (more : List Piece) → fits spec cap ≡ true
      → cap_said known (cap_at pl spec key p cap more) ≡ cap
  cap_back key p cap more f = search (rules, fits_object, cap_of, place_back, rights_back, no_rights_is, badge_back, zero_badge)

  slots_back : (done ss : List (ℕ × Cap)) (more : List Piece) → rise (done ++ ss) ≡ true → list_all (λ s. fits spec s.1) ss ≡ true
      → slots_from known done (slots_at pl spec ss more) ≡ done ++ ss
  slots_back done [] more r f = sym (append-nil done)
  slots_back done (s ∷ ss) more r f =
      let k = and_parts (fits spec s.1) (list_all (λ s. fits spec s.1) ss) f in
      let c = cap_back (keys.Number s.0) (hex s.0 []) s.1 (slots_pieces spec ss more) k.0 in
      let same : (done ++ s ∷ []) ++ ss ≡ done ++ s ∷ ss = append_assoc done (s ∷ []) ss in
      ap (λ d. slots_from known d (slots_at pl spec ss more)) (ap (λ x. insert_entry nat_cmp done s.0 x) c
      ∙ insert_end done s.0 s.1 (rise_below done s ss r)) ∙ slots_back (done ++ s ∷ []) ss more (rw same r) k.1 ∙ same

  -- ---- threads

  fields_back : (a i s : ℕ) (t u v : List Piece) (elf : Option (List ℕ)) (tail : List Piece) (prio : ℕ) (more : List Piece)
      → fields_from no_tcb (field_at pl (codes "addr") thread.Addr a (hex a []) t ∷ field_at pl (codes "ip") thread.Ip i
      (hex i []) u ∷ field_at pl (codes "sp") thread.Sp s (hex s []) v ∷ with_elf pl elf tail (last_fields pl prio more))
      ≡ (let r : Tcb = record { addr = a; ip = i; sp = s; prio = prio; elf = elf; cspace = None; vspace = None; buffer = None } in
      r)
  fields_back a i s t u v None tail prio more = refl
  fields_back a i s t u v (Some elf) tail prio more = refl

  tcb_back : (tcb : Tcb) (c v : Option ℕ) (b : Option Cap) (more : List Piece) → tcb.cspace ≡ None → tcb.vspace ≡ None
      → tcb.buffer ≡ None → if_any (is_at spec kinds.CNode) c ≡ true → if_any (is_space_root spec) v ≡ true
      → if_any (fits_as spec kinds.Frame) b ≡ true
      → named_from known tcb (cspace_at pl spec c v b more) ≡ record tcb { cspace = c; vspace = v; buffer = b }
  tcb_back tcb c v b more nc nv nb p q r = with_cspace c p
    where
      with_buffer : (tcb : Tcb) (b : Option Cap) → tcb.buffer ≡ None → if_any (fits_as spec kinds.Frame) b ≡ true
          → named_from known tcb (buffer_at pl spec b more) ≡ record tcb { buffer = b }
      with_buffer tcb None n r = ap (λ (x : Option Cap). record tcb { buffer = x }) n
      with_buffer tcb (Some cap) n r = search (rules, cap_back, and_parts)

      with_vspace : (tcb : Tcb) (v : Option ℕ) → tcb.vspace ≡ None → tcb.buffer ≡ None → if_any (is_space_root spec) v ≡ true
          → named_from known tcb (vspace_at pl spec v b more) ≡ record tcb { vspace = v; buffer = b }
      with_vspace tcb None n m q = with_buffer tcb b m r ∙ ap (λ (x : Option ℕ). record tcb { vspace = x; buffer = b }) n
      with_vspace tcb (Some p) n m q = search (rules, root_object, with_buffer, place_back)

      with_cspace : (c : Option ℕ) → if_any (is_at spec kinds.CNode) c ≡ true
          → named_from known tcb (cspace_at pl spec c v b more) ≡ record tcb { cspace = c; vspace = v; buffer = b }
      with_cspace None p = with_vspace tcb v nv nb q ∙ ap (λ (x : Option ℕ). record tcb { cspace = x; vspace = v; buffer = b }) nc
      with_cspace (Some n) p =
          let o = is_object spec kinds.CNode n p in
          with_vspace (record tcb { cspace = Some (place_or (known (name_at spec n))) }) v nv nb q
          ∙ ap (λ (x : ℕ). record tcb { cspace = Some x; vspace = v; buffer = b }) (place_back n o.0 o.1)

  thread_back : (tcb : Tcb) (fs : List ThreadField) (more : List Piece) → fields_from no_tcb fs ≡ record tcb {
    cspace = None;
    vspace = None;
    buffer = None;
  } → keeps_tcb spec tcb ≡ true → thread_said known fs (cspace_at pl spec tcb.cspace tcb.vspace tcb.buffer more) ≡ tcb
  thread_back tcb fs more e k =
      let a = and_parts (leb tcb.prio 255 && if_any (is_at spec kinds.CNode) tcb.cspace) (if_any (is_space_root spec) tcb.vspace
      && if_any (fits_as spec kinds.Frame) tcb.buffer) k in
      let c = and_parts (if_any (is_space_root spec) tcb.vspace) (if_any (fits_as spec kinds.Frame) tcb.buffer) a.1 in
      ap (λ (t : Tcb). named_from known t (cspace_at pl spec tcb.cspace tcb.vspace tcb.buffer more)) e
      ∙ tcb_back (record tcb { cspace = None; vspace = None; buffer = None }) tcb.cspace tcb.vspace tcb.buffer more refl refl
      refl (and_parts (leb tcb.prio 255) (if_any (is_at spec kinds.CNode) tcb.cspace) a.0).1 c.0 c.1

  -- ---- objects

  frame_back : (paddr : Option ℕ) (fill : Option Fill) (more : List Piece)
      → (paddr_said (frame_fields pl paddr fill more) ≡ paddr) × (fill_said (frame_fields pl paddr fill more) ≡ fill)
  frame_back None None more = (refl, refl)
  frame_back None (Some fill) more = (refl, refl)
  frame_back (Some p) None more = (refl, refl)
  frame_back (Some p) (Some fill) more = (refl, refl)

  fit_slots : (fit : Cap → Bool) (n : ℕ) (slots : List (ℕ × Cap)) → ((c : Cap) → fit c ≡ true → fits spec c ≡ true)
      → keeps_slots fit n slots ≡ true → (rise slots ≡ true) × (list_all (λ s. fits spec s.1) slots ≡ true)
  fit_slots fit n slots f k = search (rules, and_parts, all_from)

  table_slots : (level : Level) (n : Option ℕ) (slots : List (ℕ × Cap)) → keeps_table spec level n slots ≡ true
      → (rise slots ≡ true) × (list_all (λ s. fits spec s.1) slots ≡ true)
  table_slots level None slots k = absurd cc
  table_slots level (Some n) slots k = fit_slots (fits_as spec (child level)) n slots
      (λ c f. (and_parts (is_at spec (child level) c.object) (fits spec c) f).1) k

  irq_back : (n : Option ℕ) (more : List Piece) → if_any (is_at spec kinds.Notification) n ≡ true
      → notification_said known (irq_slot_at pl spec n more) ≡ n
  irq_back None more k = refl
  irq_back (Some p) more k = let o = is_object spec kinds.Notification p k in ap (λ (x : ℕ). Some x) (place_back p o.0 o.1)

  object_back : (o : Object) (more tail : List Piece) → keeps spec o ≡ true
      → object_said known (kind_line_at pl o more) (lines_at pl spec o tail) ≡ o
  object_back (CNode bits slots) more tail k = search (rules, fit_slots, and_parts, slots_back)
  object_back (Thread tcb) more tail k =
      ap Thread (thread_back tcb (fields_at pl tcb more) (brace_r (codes "\n") ∷ tail)
      (fields_back tcb.addr tcb.ip tcb.sp (addr_tail pl tcb more) (ip_tail pl tcb more) (sp_tail pl tcb more) tcb.elf
      (prio_tail pl tcb.prio more) tcb.prio more) k)
  object_back (Frame paddr fill) more tail k = search (rules, frame_back, frame_fields)
  object_back (Pages level slots) more tail k = search (rules, table_slots, slots_back)
  object_back (Irq n) more tail k = ap Irq (irq_back n (brace_r (codes "\n") ∷ tail) k)
  object_back _ more tail k = refl

  -- ---- what is held under which name

  -- the slot lines of each object are those of the first holder of its name
  abbrev IsHeld : List Holder → List Entry → List Piece → Type 0
  IsHeld hs [] more = Unit {0}
  IsHeld hs (e ∷ es) more = (held hs e.name ≡ lines_at pl spec e.object (holders_pieces spec es more)) × IsHeld hs es more

  held_none : (name : List ℕ) (es : List Entry) (more : List Piece) → is_other name es ≡ true
      → held (holders_at pl spec es more) name ≡ []
  held_none name [] more o = refl
  held_none name (e ∷ es) more o =
      let k = and_parts (not (bytes_eq e.name name)) (is_other name es) o in
      step (lines_at pl spec e.object (holders_pieces spec es more)) (other name e.name (not-true _ k.0))
      (held_none name es more k.1)
    where
      other : (a b : List ℕ) → bytes_eq b a ≡ false → bytes_eq a b ≡ false
      other a b h = search (rules, bytes_eq-Decides)

      step : (lines : List SlotLine) → bytes_eq name e.name ≡ false → held (holders_at pl spec es more) name ≡ []
          → held (held_at pl e.name (pl (held_pieces spec e.name e.object (holders_pieces spec es more))) lines
          (holders_at pl spec es more)) name ≡ []
      step [] q h = h
      step (s ∷ ss) q h = rw q h

  held_first : (name : List ℕ) (place : Span) (lines : List SlotLine) (hs : List Holder) → held hs name ≡ []
      → held (held_at pl name place lines hs) name ≡ lines
  held_first name place [] hs h = h
  held_first name place (s ∷ ss) hs h = let t : bytes_eq name name ≡ true = (bytes_eq-Decides name name).1 refl in rw t refl

  held_later : (name : List ℕ) (place : Span) (lines : List SlotLine) (hs : List Holder) (es : List Entry) (more : List Piece)
      → is_other name es ≡ true → IsHeld hs es more → IsHeld (held_at pl name place lines hs) es more
  held_later name place [] hs es more o h = h
  held_later name place (s ∷ ss) hs [] more o h = tt
  held_later name place (s ∷ ss) hs (e ∷ es) more o h =
      let k = and_parts (not (bytes_eq e.name name)) (is_other name es) o in
      (rw (not-true _ k.0) h.0, held_later name place (s ∷ ss) hs es more k.1 h.1)

  all_held : (es : List Entry) (more : List Piece) → names_differ es ≡ true → IsHeld (holders_at pl spec es more) es more
  all_held [] more d = tt
  all_held (e ∷ es) more d =
      let p = differ_parts e es d in
      let rest = holders_pieces spec es more in (
        held_first e.name _ (lines_at pl spec e.object rest) (holders_at pl spec es more) (held_none e.name es more p.0),
        held_later e.name _ (lines_at pl spec e.object rest) (holders_at pl spec es more) es more p.0 (all_held es more p.1),
      )

  entries_from : (hs : List Holder) (es : List Entry) (more tail : List Piece) → IsHeld hs es tail
      → list_all (λ e. keeps spec e.object) es ≡ true → map (entry_said known hs) (objects_at pl es more) ≡ es
  entries_from hs [] more tail h k = refl
  entries_from hs (e ∷ es) more tail h k =
      let p = and_parts (keeps spec e.object) (list_all (λ e. keeps spec e.object) es) k in
      let rest = objects_pieces es more in
      let said : object_said known (kind_line_at pl e.object rest) (held hs e.name) ≡ e.object =
      search (rules, kind_line_at, object_back) in
      ap (λ (x : Object). let d : Entry = record { name = e.name; object = x } in
      d ∷ map (entry_said known hs) (objects_at pl es more)) said ∙ ap (λ (xs : List Entry). e ∷ xs)
      (entries_from hs es more tail h.1 p.1)

  pub entries_back : (more tail : List Piece) → IsKept spec → map (entry_said known (holders_at pl spec spec.entries tail))
      (objects_at pl spec.entries more) ≡ spec.entries
  entries_back more tail kept = entries_from (holders_at pl spec spec.entries tail) spec.entries more tail
      (all_held spec.entries tail kept.names) kept.objects

  -- ---- interrupt lines

  pub lines_back : (done ls : List (ℕ × ℕ)) (more : List Piece) → rise (done ++ ls) ≡ true
      → list_all (λ l. is_at spec kinds.Irq l.1) ls ≡ true → lines_from known done (irqs_at pl spec ls more) ≡ done ++ ls
  lines_back done [] more r k = sym (append-nil done)
  lines_back done (l ∷ ls) more r k =
      let p = and_parts (is_at spec kinds.Irq l.1) (list_all (λ l. is_at spec kinds.Irq l.1) ls) k in
      let o = is_object spec kinds.Irq l.1 p.0 in
      let put : insert_entry nat_cmp done l.0 (place_or (known (name_at spec l.1))) ≡ done ++ l ∷ [] =
      search (rules, place_back, insert_end, rise_below) in
      let same : (done ++ l ∷ []) ++ ls ≡ done ++ l ∷ ls = append_assoc done (l ∷ []) ls in
      ap (λ d. lines_from known d (irqs_at pl spec ls more)) put ∙ lines_back (done ++ l ∷ []) ls more (rw same r) p.1 ∙ same
