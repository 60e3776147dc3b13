-- No fault stands in the tree of a canonical text.
use Rattle.capdl_write.proofs.Common.{Arch, Bool, CNode, Cap, Directory, Each, Endpoint, Entry, Frame, Holder, Id, Irq, IsKept, Kind, Known, Knows, Level, List, None, Notification, Object, Option, Pages, Param, Piece, Rights, SlotKey}
use Rattle.capdl_write.proofs.Common.{SlotLine, Some, Span, Spec, Thread, ThreadField, [], and_from, and_parts, ap, arith, brace_r, bytes_eq, bytes_eq-Decides, child, codes, differ, each_then, false, fields_twice, fits, fits_as}
use Rattle.capdl_write.proofs.Common.{fits_kind, flat_map, has_badge, has_key, has_rights, hex, holders_pieces, holds, if_any, inl, inr, irq_keyed, irq_off, is_at, is_kind, is_root_object, is_some, is_space_root, keeps, keeps_fill, keeps_slots}
use Rattle.capdl_write.proofs.Common.{keeps_table, key_past, keys_after, keys_twice, kind_of_object, kind_off, kind_rights, kind_takes, leb, list_all, list_any, map, name_at, names_after, names_differ, nat_lt, nat_tests, not, not-true, object_at}
use Rattle.capdl_write.proofs.Common.{objects_pieces, off_in, option_map, param_off, params_twice, past_in, refl, rise, rise_tail, same_Some, same_kind, size, slice_get, slot_keyed, slot_off, slots_past, suc, sym, takes, thread_keyed}
use Rattle.capdl_write.proofs.Common.{rules, thread_value_off, true, twice_in, unknown, unknown_in, within, word, zero, ℕ, ◌%◌, ◌&&◌, ◌++◌, ◌+◌, ◌==◌, ◌^◌, ◌||◌, ◌∙◌, ◌∷◌, ◌≡◌, ◌⊎◌}
use Rattle.cap_model.specs.declared.kind.Kind.TheVariants as kinds
use Rattle.name_tables.specs.Keys.{Key, same_key}
use Rattle.capdl_text.specs.KindField.{is_space_root as root_kind}
use Rattle.capdl_text.specs.declared.tree.SlotKey.TheVariants as keys
use Rattle.capdl_text.specs.declared.tree.ThreadValue.TheVariants as thread
use Rattle.capdl_write.proofs.Known.{KnowsAll, any_none, is_other, differ_parts, known_object, known_place}
use Rattle.capdl_write.proofs.Named.{all_from}
use Rattle.capdl_write.proofs.ReadBack.{kind_at as kind_line_at, objects_at, addr_tail, ip_tail, sp_tail, prio_tail, field_at, with_elf, last_fields}
use Rattle.capdl_write.proofs.ReadHolders.{no_rights_at, params_at, slot_at}
use Rattle.capdl_write.proofs.ReadText.{cap_at, slots_at, buffer_at, vspace_at, cspace_at, irq_slot_at, lines_at, held_at, holders_at, irqs_at}
use Rattle.capdl_text.proofs.Below.{IsBelow}

-- ---- lists

pub nil_both : {A : Type 0} (xs ys : List A) → xs ≡ [] → ys ≡ [] → xs ++ ys ≡ []
nil_both xs ys e f = rw (e, f) refl

pub flat_none : {A B : Type 0} (f : A → List B) (p : A → Type 0) (xs : List A) → ((x : A) → p x → f x ≡ []) → Each p xs
    → flat_map f xs ≡ []
flat_none f p [] step e = refl
flat_none f p (x ∷ xs) step e = nil_both (f x) (flat_map f xs) (step x e.0) (flat_none f p xs step e.1)

pub rise_all : {A : Type 0} (x : ℕ × A) (xs : List (ℕ × A)) → rise (x ∷ xs) ≡ true → list_all (λ t. nat_lt x.0 t.0) xs ≡ true
rise_all x [] r = refl
rise_all x (y ∷ ys) r =
    let k = and_parts (nat_lt x.0 y.0) (rise (y ∷ ys)) r in let h = rise_all y ys k.1 in
    and_from _ _ k.0 (all_from (λ t. nat_lt y.0 t.0) (λ t. nat_lt y.0 t.0) (λ t. nat_lt x.0 t.0) ys
    (λ t p q. on x.0 y.0 t.0 k.0 p) h h)
  where
    on : (a b c : ℕ) → nat_lt a b ≡ true → nat_lt b c ≡ true → nat_lt a c ≡ true
    on a b c p q = grind (arith, nat_tests)

apart : (a b : ℕ) → nat_lt a b ≡ true → not (b == a) ≡ true
apart a b h = grind (arith, nat_tests)

not_either : (a b : Bool) → not a ≡ true → not b ≡ true → not (a || b) ≡ true
not_either true b p q = absurd cc
not_either false b p q = q

-- keys of numbers that rise aren't met again
numbers_unmet : {A : Type 0} (met : Key → Bool) (x : ℕ × A) (xs : List (ℕ × A)) → rise (x ∷ xs) ≡ true
    → list_all (λ t. not (met (0, t.0))) xs ≡ true
    → list_all (λ (t : ℕ × A). not (met (0, t.0) || same_key (0, t.0) (0, x.0))) xs ≡ true
numbers_unmet {A} met x xs r u = search (rules, all_from, not_either, apart, rise_all)

-- ---- objects that are there

pub fits_object : (spec : Spec) (cap : Cap) → fits spec cap ≡ true → (o : Object) × (object_at spec cap.object ≡ Some o)
    × (fits_kind (Some (kind_of_object o)) cap ≡ true)
fits_object spec cap h = search (rules)

pub is_object : (spec : Spec) (kind : Kind) (place : ℕ) → is_at spec kind place ≡ true
    → (o : Object) × (object_at spec place ≡ Some o) × (same_kind (kind_of_object o) kind ≡ true)
is_object spec kind place h = search (rules)

pub root_object : (spec : Spec) (place : ℕ) → is_space_root spec place ≡ true → (o : Object) × (object_at spec place ≡ Some o)
    × (root_kind spec.arch (kind_of_object o) ≡ true)
root_object spec place h = search (rules)

same_there : (spec : Spec) (kind : Kind) (place : ℕ) (o : Object) → is_at spec kind place ≡ true → object_at spec place ≡ Some o
    → same_kind (kind_of_object o) kind ≡ true
same_there spec kind place o h g = rw g at h

-- ---- slot lines without faults

module _ (arch : Arch) (known : Knows) where
  -- no fault stands at the slot line, where its holder is h
  pub record IsGood (h : Known) (s : SlotLine) : Type 0 where
    pub object : Known
    pub is : known s.object.name ≡ Some object
    pub key : has_key h.kind s.key ≡ true
    pub suits : takes arch (Some h) s.key object.kind s.params ≡ true
    pub params : flat_map (param_off object.kind) s.params ≡ []
    pub once : params_twice s ≡ []
    pub below : IsBelow h.size s.key

  -- no fault stands at the holder
  pub record IsFine (h : Holder) : Type 0 where
    pub found : unknown_in known h ≡ []
    pub once : twice_in h ≡ []
    pub suits : off_in arch known h ≡ []
    pub below : past_in known h ≡ []

  good_found : (h : Known) (s : SlotLine) → IsGood h s → unknown known s.object ≡ []
  good_found h s g = let e = g.is in rw e refl

  good_suits : (id : Id) (h : Known) (s : SlotLine) → IsGood h s → slot_off arch known id (Some h) s ≡ []
  good_suits id h s g = let e = g.is in let k = g.key in let t = g.suits in let p = g.params in rw (e, k, t) p

  below_one : (id : Id) (size : ℕ) (s : SlotLine) (key : SlotKey) → IsBelow (Some size) key → key_past id size key s ≡ []
  below_one id size s (keys.Number n) b = rw b refl
  below_one id size s _ b = refl

  below_all : (id : Id) (size : Option ℕ) (ss : List SlotLine) → Each (λ (s : SlotLine). IsBelow size s.key) ss
      → slots_past id size ss ≡ []
  below_all id None ss b = refl
  below_all id (Some size) ss b = flat_none (λ s. key_past id size s.key s) (λ (s : SlotLine). IsBelow (Some size) s.key) ss
      (λ s c. below_one id size s s.key c) b

  pub holder_fine : (id : Id) (h : Known) (ss : List SlotLine) → known id.name ≡ Some h → holds h.kind ≡ true → Each (IsGood h) ss
      → keys_twice id.name (map slot_keyed ss) ≡ [] → IsFine (record { id = id; slots = ss })
  holder_fine id h ss e k g t = search (rules, flat_none, good_found, nil_both, good_suits, below_all, each_then)

-- ---- parameters

params_once : (pl : List Piece → Span) (key : SlotKey) (p : Piece) (name : List ℕ) (r b : Bool) (rights : Rights) (badge : ℕ)
    (more : List Piece) → params_twice (slot_at pl key p name r b rights badge more) ≡ []
params_once pl key p name false false rights badge more = refl
params_once pl key p name true false rights badge more = refl
params_once pl key p name false true rights badge more = refl
params_once pl key p name true true rights badge more = refl

params_none : (pl : List Piece → Span) (kind : Kind) (r b : Bool) (rights : Rights) (badge : ℕ) (more : List Piece)
    → within rights (kind_rights kind) ≡ true → (b ≡ true → has_badge kind ≡ true)
    → flat_map (param_off kind) (params_at pl r b rights badge more) ≡ []
params_none pl kind false false rights badge more w h = refl
params_none pl kind true false rights badge more w h = rw w refl
params_none pl kind false true rights badge more w h = let g = h refl in rw g refl
params_none pl kind true true rights badge more w h = let g = h refl in rw (w, g) refl

badge_needs : (has none : Bool) → (has || none) ≡ true → not none ≡ true → has ≡ true
badge_needs true none h n = refl
badge_needs false none h n = absurd (let e = not-true none n in cc)

module _ (pl : List Piece → Span) (spec : Spec) (known : Knows) (all : KnowsAll spec known) where
  good_cap : (h : Known) (key : SlotKey) (p : Piece) (cap : Cap) (more : List Piece) → has_key h.kind key ≡ true
      → IsBelow h.size key → fits spec cap ≡ true → ((o : Object) (ps : List Param) → object_at spec cap.object ≡ Some o
      → takes spec.arch (Some h) key (kind_of_object o) ps ≡ true) → IsGood spec.arch known h (cap_at pl spec key p cap more)
  good_cap h key p cap more k b f t =
      let o = fits_object spec cap f in
      let w = and_parts (within cap.rights (kind_rights (kind_of_object o.0))) (has_badge (kind_of_object o.0)
      || cap.badge == 0) o.2 in
      record {
        object = known_object spec.arch cap.object o.0;
        is = known_place spec known all cap.object o.0 o.1;
        key = k;
        suits = t o.0 (params_at pl (has_rights cap.rights) (not (cap.badge == 0)) cap.rights cap.badge more) o.1;
        params = params_none pl (kind_of_object o.0) (has_rights cap.rights) (not (cap.badge == 0)) cap.rights cap.badge more w.0
            (λ n. badge_needs (has_badge (kind_of_object o.0)) (cap.badge == 0) w.1 n);
        once = params_once pl key p (name_at spec cap.object) (has_rights cap.rights) (not (cap.badge == 0)) cap.rights
            cap.badge more;
        below = b;
      }

  -- a slot without parameters
  good_plain : (h : Known) (key : SlotKey) (p : Piece) (place : ℕ) (more : List Piece) (o : Object) → has_key h.kind key ≡ true
      → IsBelow h.size key → object_at spec place ≡ Some o → takes spec.arch (Some h) key (kind_of_object o) [] ≡ true
      → IsGood spec.arch known h (slot_at pl key p (name_at spec place) false false (no_rights_at pl) 0 more)
  good_plain h key p place more o k b g t =
      record {
        object = known_object spec.arch place o;
        is = known_place spec known all place o g;
        key = k;
        suits = t;
        params = refl;
        once = refl;
        below = b;
      }

  good_slots : (h : Known) (fit : Cap → Bool) (size : ℕ) (ss : List (ℕ × Cap)) (more : List Piece)
      → not (same_kind h.kind kinds.Thread) ≡ true → ((n : ℕ) → nat_lt n size ≡ true → IsBelow h.size (keys.Number n))
      → ((c : Cap) → fit c ≡ true → fits spec c ≡ true)
      → ((c : Cap) (o : Object) (ps : List Param) → fit c ≡ true → object_at spec c.object ≡ Some o
      → kind_takes h.kind (kind_of_object o) ps ≡ true) → list_all (λ s. nat_lt s.0 size && fit s.1) ss ≡ true
      → Each (IsGood spec.arch known h) (slots_at pl spec ss more)
  good_slots h fit size [] more k b f t a = tt
  good_slots h fit size (s ∷ ss) more k b f t a =
      let p = and_parts (nat_lt s.0 size && fit s.1) (list_all (λ s. nat_lt s.0 size && fit s.1) ss) a in
      let q = and_parts (nat_lt s.0 size) (fit s.1) p.0 in (
        good_cap h (keys.Number s.0) (hex s.0 []) s.1 _ k (b s.0 q.0) (f s.1 q.1) (λ o ps g. t s.1 o ps q.1 g),
        good_slots h fit size ss more k b f t p.1,
      )

  no_thread : (level : Level) → not (same_kind (kinds.Pages level) kinds.Thread) ≡ true
  no_thread Directory = refl
  no_thread _ = refl

  good_table : (place : ℕ) (level : Level) (slots : List (ℕ × Cap)) (more : List Piece) (n : Option ℕ) → size spec.arch level ≡ n
      → keeps_table spec level n slots ≡ true → Each (IsGood spec.arch known (known_object spec.arch place (Pages level slots)))
      (slots_at pl spec slots more)
  good_table place level slots more None e k = absurd cc
  good_table place level slots more (Some n) e k =
      good_slots (known_object spec.arch place (Pages level slots)) (fits_as spec (child level)) n slots more (no_thread level)
      (λ m l. rw e l) (λ c f. (and_parts (is_at spec (child level) c.object) (fits spec c) f).1)
      (λ c o ps f g. same_there spec (child level) c.object o (and_parts (is_at spec (child level) c.object) (fits spec c) f).0 g)
      (and_parts (rise slots) (list_all (λ s. nat_lt s.0 n && fits_as spec (child level) s.1) slots) k).1

  good_cnode : (place bits : ℕ) (slots : List (ℕ × Cap)) (more : List Piece) → keeps spec (CNode bits slots) ≡ true
      → Each (IsGood spec.arch known (known_object spec.arch place (CNode bits slots))) (slots_at pl spec slots more)
  good_cnode place bits slots more k =
      let a = and_parts (nat_lt 0 bits && leb bits 16) (keeps_slots (fits spec) (2 ^ bits) slots) k in
      let b = and_parts (rise slots) (list_all (λ s. nat_lt s.0 (2 ^ bits) && fits spec s.1) slots) a.1 in
      good_slots (known_object spec.arch place (CNode bits slots)) (fits spec) (2 ^ bits) slots more refl (λ m l. rw a.0 l)
      (λ c f. f) (λ c o ps f g. refl) b.1

  good_tcb : (h : Known) → same_kind h.kind kinds.Thread ≡ true → IsBelow h.size keys.Cspace → IsBelow h.size keys.Vspace
      → IsBelow h.size keys.Buffer → (c v : Option ℕ) (b : Option Cap) (more : List Piece)
      → if_any (is_at spec kinds.CNode) c ≡ true → if_any (is_space_root spec) v ≡ true
      → if_any (fits_as spec kinds.Frame) b ≡ true → Each (IsGood spec.arch known h) (cspace_at pl spec c v b more)
  good_tcb h k bc bv bb c v b more p q r = with_cspace c p
    where
      with_buffer : (b : Option Cap) → if_any (fits_as spec kinds.Frame) b ≡ true
          → Each (IsGood spec.arch known h) (buffer_at pl spec b more)
      with_buffer None r = tt
      with_buffer (Some cap) r = search (rules, and_parts, good_cap, same_there)

      with_vspace : (v : Option ℕ) → if_any (is_space_root spec) v ≡ true
          → Each (IsGood spec.arch known h) (vspace_at pl spec v b more)
      with_vspace None q = with_buffer b r
      with_vspace (Some p) q = let o = root_object spec p q in
          (good_plain h keys.Vspace (word (codes "vspace") []) p _ o.0 k bv o.1 o.2, with_buffer b r)

      with_cspace : (c : Option ℕ) → if_any (is_at spec kinds.CNode) c ≡ true
          → Each (IsGood spec.arch known h) (cspace_at pl spec c v b more)
      with_cspace None p = with_vspace v q
      with_cspace (Some n) p = let o = is_object spec kinds.CNode n p in
          (good_plain h keys.Cspace (word (codes "cspace") []) n _ o.0 k bc o.1 o.2, with_vspace v q)

  good_irq : (h : Known) → same_kind h.kind kinds.Thread ≡ false
      → ((o : Kind) → kind_takes h.kind o [] ≡ same_kind o kinds.Notification) → IsBelow h.size (keys.Number 0)
      → (n : Option ℕ) (more : List Piece) → if_any (is_at spec kinds.Notification) n ≡ true
      → Each (IsGood spec.arch known h) (irq_slot_at pl spec n more)
  good_irq h k t b None more p = tt
  good_irq h k t b (Some n) more p =
      let o = is_object spec kinds.Notification n p in
      (good_plain h (keys.Number 0) (hex 0 []) n more o.0 (ap not k) b o.1 (t (kind_of_object o.0) ∙ o.2), tt)

  and_true : (b : Bool) → (b && true) ≡ b
  and_true true = refl
  and_true false = refl

  -- the slot lines of an object
  good_lines : (place : ℕ) (o : Object) (more : List Piece) → keeps spec o ≡ true
      → Each (IsGood spec.arch known (known_object spec.arch place o)) (lines_at pl spec o more)
  good_lines place (CNode bits slots) more k = good_cnode place bits slots (brace_r (codes "\n") ∷ more) k
  good_lines place (Thread tcb) more k = search (rules, and_parts, good_tcb, known_object)
  good_lines place (Pages level slots) more k = good_table place level slots (brace_r (codes "\n") ∷ more)
      (size spec.arch level) refl k
  good_lines place (Irq n) more k = good_irq (known_object spec.arch place (Irq n)) refl
      (λ o. and_true (same_kind o kinds.Notification)) refl n (brace_r (codes "\n") ∷ more) k
  good_lines place _ more k = tt

  -- ---- what stands once

  slots_once : (name : List ℕ) (met : Key → Bool) (ss : List (ℕ × Cap)) (more : List Piece) → rise ss ≡ true
      → list_all (λ s. not (met (0, s.0))) ss ≡ true → keys_after name met (map slot_keyed (slots_at pl spec ss more)) ≡ []
  slots_once name met [] more r u = refl
  slots_once name met (s ∷ ss) more r u =
      let k = and_parts (not (met (0, s.0))) (list_all (λ s. not (met (0, s.0))) ss) u in
      let n = not-true (met (0, s.0)) k.0 in
      rw n (slots_once name (λ q. met q || same_key q (0, s.0)) ss more (rise_tail s ss r) (numbers_unmet met s ss r k.1))

  unmet : {A : Type 0} (xs : List A) → list_all (λ (x : A). true) xs ≡ true
  unmet [] = refl
  unmet (x ∷ xs) = unmet xs

  tcb_once : (name : List ℕ) (c v : Option ℕ) (b : Option Cap) (more : List Piece)
      → keys_twice name (map slot_keyed (cspace_at pl spec c v b more)) ≡ []
  tcb_once name None None (Some b) more = refl
  tcb_once name None (Some v) (Some b) more = refl
  tcb_once name (Some c) None (Some b) more = refl
  tcb_once name (Some c) (Some v) (Some b) more = refl
  tcb_once name _ _ _ more = refl

  irq_once : (name : List ℕ) (n : Option ℕ) (more : List Piece)
      → keys_twice name (map slot_keyed (irq_slot_at pl spec n more)) ≡ []
  irq_once name None more = refl
  irq_once name (Some n) more = refl

  table_rise : (level : Level) (n : Option ℕ) (slots : List (ℕ × Cap)) → keeps_table spec level n slots ≡ true → rise slots ≡ true
  table_rise level None slots k = absurd cc
  table_rise level (Some n) slots k = (and_parts (rise slots) _ k).0

  pub lines_once : (name : List ℕ) (o : Object) (more : List Piece) → keeps spec o ≡ true
      → keys_twice name (map slot_keyed (lines_at pl spec o more)) ≡ []
  lines_once name (CNode bits slots) more k =
      slots_once name (λ q. false) slots _
      (and_parts (rise slots) _ (and_parts (nat_lt 0 bits && leb bits 16) (keeps_slots (fits spec) (2 ^ bits) slots) k).1).0
      (unmet slots)
  lines_once name (Thread tcb) more k = tcb_once name tcb.cspace tcb.vspace tcb.buffer (brace_r (codes "\n") ∷ more)
  lines_once name (Pages level slots) more k =
      slots_once name (λ q. false) slots _ (table_rise level (size spec.arch level) slots k) (unmet slots)
  lines_once name (Irq n) more k = irq_once name n (brace_r (codes "\n") ∷ more)
  lines_once name _ more k = refl

  -- ---- holders

  abbrev IsKnown : Entry → Type 0
  IsKnown e = (j : ℕ) × (known e.name ≡ Some (known_object spec.arch j e.object))

  each_known : (es : List Entry) → ((i : ℕ) (e : Entry) → slice_get es i ≡ Some e → IsKnown e) → Each IsKnown es
  each_known [] h = tt
  each_known (e ∷ es) h = (h zero e refl, each_known es (λ i d g. h (suc i) d g))

  holds_lines : (o : Object) (more : List Piece) → (lines_at pl spec o more ≡ []) ⊎ (holds (kind_of_object o) ≡ true)
  holds_lines Endpoint more = inl refl
  holds_lines Notification more = inl refl
  holds_lines (Frame paddr fill) more = inl refl
  holds_lines _ more = inr refl

  fine_held : (name : List ℕ) (place : Span) (lines : List SlotLine) (hs : List Holder) (h : Known) → known name ≡ Some h
      → (lines ≡ []) ⊎ (holds h.kind ≡ true) → Each (IsGood spec.arch known h) lines → keys_twice name (map slot_keyed lines) ≡ []
      → Each (IsFine spec.arch known) hs → Each (IsFine spec.arch known) (held_at pl name place lines hs)
  fine_held name place [] hs h e k g t f = f
  fine_held name place (s ∷ ss) hs h e (inl k) g t f = absurd cc
  fine_held name place (s ∷ ss) hs h e (inr k) g t f =
      (holder_fine spec.arch known (record { name = name; place = place }) h (s ∷ ss) e k g t, f)

  fine_holders : (es : List Entry) (more : List Piece) → Each IsKnown es → list_all (λ e. keeps spec e.object) es ≡ true
      → Each (IsFine spec.arch known) (holders_at pl spec es more)
  fine_holders [] more n k = tt
  fine_holders (e ∷ es) more n k =
      let p = and_parts (keeps spec e.object) (list_all (λ e. keeps spec e.object) es) k in
      let rest = holders_pieces spec es more in
      fine_held e.name _ (lines_at pl spec e.object rest) (holders_at pl spec es more) (known_object spec.arch n.0.0 e.object)
      n.0.1 (holds_lines e.object rest) (good_lines n.0.0 e.object rest p.0) (lines_once e.name e.object rest p.0)
      (fine_holders es more n.1 p.1)

  pub all_fine : IsKept spec → (more : List Piece) → Each (IsFine spec.arch known) (holders_at pl spec spec.entries more)
  all_fine kept more = fine_holders spec.entries more (each_known spec.entries (λ i e g. (i, all i e g))) kept.objects

  -- ---- names stand once

  names_unmet : (met : List ℕ → Bool) (e : Entry) (es : List Entry) → is_other e.name es ≡ true
      → list_all (λ d. not (met d.name)) es ≡ true → list_all (λ d. not (met d.name || bytes_eq d.name e.name)) es ≡ true
  names_unmet met e es o u = search (rules, all_from, not_either)

  objects_once : (met : List ℕ → Bool) (es : List Entry) (more : List Piece) → names_differ es ≡ true
      → list_all (λ e. not (met e.name)) es ≡ true → names_after met (map (λ o. o.id) (objects_at pl es more)) ≡ []
  objects_once met [] more d u = refl
  objects_once met (e ∷ es) more d u =
      let k = and_parts (not (met e.name)) (list_all (λ e. not (met e.name)) es) u in
      let p = differ_parts e es d in
      rw (not-true (met e.name) k.0) (objects_once (λ m. met m || bytes_eq m e.name) es more p.1 (names_unmet met e es p.0 k.1))

  held_once : (met : List ℕ → Bool) (name : List ℕ) (place : Span) (lines : List SlotLine) (hs : List Holder) → met name ≡ false
      → names_after met (map (λ h. h.id) hs) ≡ [] → names_after (λ m. met m || bytes_eq m name) (map (λ h. h.id) hs) ≡ []
      → names_after met (map (λ h. h.id) (held_at pl name place lines hs)) ≡ []
  held_once met name place [] hs n e f = e
  held_once met name place (s ∷ ss) hs n e f = rw n f

  holders_once : (met : List ℕ → Bool) (es : List Entry) (more : List Piece) → names_differ es ≡ true
      → list_all (λ e. not (met e.name)) es ≡ true → names_after met (map (λ h. h.id) (holders_at pl spec es more)) ≡ []
  holders_once met [] more d u = refl
  holders_once met (e ∷ es) more d u =
      let k = and_parts (not (met e.name)) (list_all (λ e. not (met e.name)) es) u in
      let p = differ_parts e es d in
      held_once met e.name _ (lines_at pl spec e.object (holders_pieces spec es more)) (holders_at pl spec es more)
      (not-true (met e.name) k.0) (holders_once met es more p.1 k.1)
      (holders_once (λ m. met m || bytes_eq m e.name) es more p.1 (names_unmet met e es p.0 k.1))

  pub names_once : (more : List Piece) → IsKept spec
      → names_after (λ n. false) (map (λ o. o.id) (objects_at pl spec.entries more)) ≡ []
  names_once more kept = objects_once (λ n. false) spec.entries more kept.names (unmet spec.entries)

  pub held_names_once : (more : List Piece) → IsKept spec
      → names_after (λ n. false) (map (λ h. h.id) (holders_at pl spec spec.entries more)) ≡ []
  held_names_once more kept = holders_once (λ n. false) spec.entries more kept.names (unmet spec.entries)

  -- ---- objects suit

  elf_none : (elf : Option (List ℕ)) (tail : List Piece) (fs : List ThreadField)
      → flat_map (λ f. thread_value_off f.value) fs ≡ [] → flat_map (λ f. thread_value_off f.value) (with_elf pl elf tail fs) ≡ []
  elf_none None tail fs e = e
  elf_none (Some elf) tail fs e = e

  some_size : (level : Level) (n : Option ℕ) (slots : List (ℕ × Cap)) → keeps_table spec level n slots ≡ true → is_some n ≡ true
  some_size level None slots k = absurd cc
  some_size level (Some n) slots k = refl

  object_suits : (o : Object) (more : List Piece) → keeps spec o ≡ true → kind_off spec.arch (kind_line_at pl o more) ≡ []
  object_suits (CNode bits slots) more k = let b =
      (and_parts (nat_lt 0 bits && leb bits 16) (keeps_slots (fits spec) (2 ^ bits) slots) k).0 in rw b refl
  object_suits (Thread tcb) more k = search (rules, and_parts, elf_none, last_fields)
  object_suits (Frame None (Some fill)) more k = rw k refl
  object_suits (Frame (Some p) None) more k = let h = (and_parts (p % 4096 == 0) true k).0 in rw h refl
  object_suits (Frame (Some p) (Some fill)) more k = let h = and_parts (p % 4096 == 0) (keeps_fill fill) k in let a = h.0 in
      let b = h.1 in rw (a, b) refl
  object_suits (Pages level slots) more k = let s = some_size level (size spec.arch level) slots k in rw s refl
  object_suits _ more k = refl

  pub objects_suit : (es : List Entry) (more : List Piece) → list_all (λ e. keeps spec e.object) es ≡ true
      → flat_map (λ o. kind_off spec.arch o.kind) (objects_at pl es more) ≡ []
  objects_suit [] more k = refl
  objects_suit (e ∷ es) more k =
      let p = and_parts (keeps spec e.object) (list_all (λ e. keeps spec e.object) es) k in
      nil_both _ _ (object_suits e.object (objects_pieces es more) p.0) (objects_suit es more p.1)

  thread_once : (a i s : ℕ) (t u v : List Piece) (elf : Option (List ℕ)) (tail : List Piece) (prio : ℕ) (more : List Piece)
      → keys_twice [] (map thread_keyed (field_at pl (codes "addr") thread.Addr a (hex a []) t
      ∷ field_at pl (codes "ip") thread.Ip i (hex i []) u ∷ field_at pl (codes "sp") thread.Sp s (hex s []) v
      ∷ with_elf pl elf tail (last_fields pl prio more))) ≡ []
  thread_once a i s t u v None tail prio more = refl
  thread_once a i s t u v (Some elf) tail prio more = refl

  fields_once : (o : Object) (more : List Piece) → fields_twice (kind_line_at pl o more) ≡ []
  fields_once (Thread tcb) more = thread_once tcb.addr tcb.ip tcb.sp (addr_tail pl tcb more) (ip_tail pl tcb more)
      (sp_tail pl tcb more) tcb.elf (prio_tail pl tcb.prio more) tcb.prio more
  fields_once (Frame None (Some fill)) more = refl
  fields_once (Frame (Some p) (Some fill)) more = refl
  fields_once _ more = refl

  pub all_fields_once : (es : List Entry) (more : List Piece) → flat_map (λ o. fields_twice o.kind) (objects_at pl es more) ≡ []
  all_fields_once [] more = refl
  all_fields_once (e ∷ es) more = nil_both _ _ (fields_once e.object (objects_pieces es more)) (all_fields_once es more)

  -- ---- interrupt lines

  pub irqs_found : (ls : List (ℕ × ℕ)) (more : List Piece) → list_all (λ l. is_at spec kinds.Irq l.1) ls ≡ true
      → flat_map (λ l. unknown known l.object) (irqs_at pl spec ls more) ≡ []
  irqs_found [] more k = refl
  irqs_found (l ∷ ls) more k =
      let p = and_parts (is_at spec kinds.Irq l.1) (list_all (λ l. is_at spec kinds.Irq l.1) ls) k in
      let o = is_object spec kinds.Irq l.1 p.0 in
      rw (known_place spec known all l.1 o.0 o.1) (irqs_found ls more p.1)

  pub irqs_suit : (ls : List (ℕ × ℕ)) (more : List Piece) → list_all (λ l. is_at spec kinds.Irq l.1) ls ≡ true
      → flat_map (λ l. irq_off l.object (known l.object.name)) (irqs_at pl spec ls more) ≡ []
  irqs_suit [] more k = refl
  irqs_suit (l ∷ ls) more k =
      let p = and_parts (is_at spec kinds.Irq l.1) (list_all (λ l. is_at spec kinds.Irq l.1) ls) k in
      let o = is_object spec kinds.Irq l.1 p.0 in
      rw (known_place spec known all l.1 o.0 o.1, o.2) (irqs_suit ls more p.1)

  pub numbers_once : (met : Key → Bool) (ls : List (ℕ × ℕ)) (more : List Piece) → rise ls ≡ true
      → list_all (λ l. not (met (0, l.0))) ls ≡ true → keys_after [] met (map irq_keyed (irqs_at pl spec ls more)) ≡ []
  numbers_once met [] more r u = refl
  numbers_once met (l ∷ ls) more r u =
      let k = and_parts (not (met (0, l.0))) (list_all (λ l. not (met (0, l.0))) ls) u in
      let n = not-true (met (0, l.0)) k.0 in
      rw n (numbers_once (λ q. met q || same_key q (0, l.0)) ls more (rise_tail l ls r) (numbers_unmet met l ls r k.1))

  same_place : (a b : ℕ) (x y : Object) → known (name_at spec a) ≡ Some (known_object spec.arch a x)
      → known (name_at spec b) ≡ Some (known_object spec.arch b y) → name_at spec a ≡ name_at spec b → a ≡ b
  same_place a b x y p q e = ap (λ (k : Known). k.place) (same_Some _ _ (sym p ∙ ap known e ∙ q))

  names_apart : (a b : ℕ) → is_at spec kinds.Irq a ≡ true → is_at spec kinds.Irq b ≡ true → not (a == b) ≡ true
      → not (bytes_eq (name_at spec a) (name_at spec b)) ≡ true
  names_apart a b p q n = go (bytes_eq (name_at spec a) (name_at spec b)) refl
    where
      go : (t : Bool) → bytes_eq (name_at spec a) (name_at spec b) ≡ t → not t ≡ true
      go true e =
          let x = is_object spec kinds.Irq a p in let y = is_object spec kinds.Irq b q in
          let s : a ≡ b = same_place a b x.0 y.0 (known_place spec known all a x.0 x.1) (known_place spec known all b y.0 y.1)
          ((bytes_eq-Decides (name_at spec a) (name_at spec b)).0 e) in
          absurd (let f = not-true (a == b) n in grind (arith, nat_tests, s, f))
      go false e = refl

  pub irq_names_once : (met : List ℕ → Bool) (ls : List (ℕ × ℕ)) (more : List Piece)
      → differ (λ a b. a == b) (map (λ l. l.1) ls) ≡ true → list_all (λ l. is_at spec kinds.Irq l.1) ls ≡ true
      → list_all (λ l. not (met (name_at spec l.1))) ls ≡ true
      → names_after met (map (λ l. l.object) (irqs_at pl spec ls more)) ≡ []
  irq_names_once met [] more d k u = refl
  irq_names_once met (l ∷ ls) more d k u =
      let p = and_parts (is_at spec kinds.Irq l.1) (list_all (λ l. is_at spec kinds.Irq l.1) ls) k in
      let q = and_parts (not (met (name_at spec l.1))) (list_all (λ l. not (met (name_at spec l.1))) ls) u in
      let e = and_parts (not (list_any (λ m. m == l.1) (map (λ l. l.1) ls))) (differ (λ a b. a == b) (map (λ l. l.1) ls)) d in
      let others : list_all (λ (m : ℕ × ℕ). not (m.1 == l.1)) ls ≡ true = search (rules, any_none, not-true) in
      let apart_names : list_all (λ (m : ℕ × ℕ). not (bytes_eq (name_at spec m.1) (name_at spec l.1))) ls ≡ true =
      search (rules, all_from, names_apart) in
      rw (not-true (met (name_at spec l.1)) q.0) (irq_names_once (λ m. met m || bytes_eq m (name_at spec l.1)) ls more e.1 p.1
      (all_from (λ (m : ℕ × ℕ). not (met (name_at spec m.1)))
      (λ (m : ℕ × ℕ). not (bytes_eq (name_at spec m.1) (name_at spec l.1)))
      (λ (m : ℕ × ℕ). not (met (name_at spec m.1) || bytes_eq (name_at spec m.1) (name_at spec l.1))) ls
      (λ m g h. not_either (met (name_at spec m.1)) (bytes_eq (name_at spec m.1) (name_at spec l.1)) g h) q.1 apart_names))
