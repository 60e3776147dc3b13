-- What is laid out is written in numbers of 64 bits and in plain texts.
use Rattle.spec_laws.proofs.Common.{Aarch64, Arch, Arm11, CNodeOf, Cap, Connector, Domain, Fill, FlatEnd, FrameInfo, FrameOf, IsFillWritten, IsFit, IsFrameWritten, IsIn, IsThere, IsThreadWritten, IsWritten, Layer, List, Mapping, None, Object}
use Rattle.spec_laws.proofs.Common.{OfEnd, Option, Part, RW, Series, Shape, SlotUse, Some, TableOf, Tables, ThreadOf, ThreadPlace, What, [], and_from, and_parts, ap, arch, are_slots, arith, cap, decimal, end_of, eqb-true, false}
use Rattle.spec_laws.proofs.Common.{false_from_ne_true, frame_object, from_gather, from_map, if_any, in_place, inl, inr, is_fill, is_laid, is_name, is_name-numbered, is_number, is_plain, is_tcb, is_word, is_word_byte, layers, leaf_name, length}
use Rattle.spec_laws.proofs.Common.{length-append, length-decimal-le, list_all, lt-ltb, map, name_short, not, not_from_false, object, option_map_or, part_name, place, prefix, refl, role_badge, same_Some, settled_badge, shape_of_layer, shapes}
use Rattle.spec_laws.proofs.Common.{rules, slice_get, slice_get_within, slot_of, slots_at, slots_below, slots_lead, subst, sym, table_of, tcb, threads_at, true, true≢false, use_cap, ℕ, ◌&&◌, ◌++◌, ◌+◌, ◌<◌, ◌==◌, ◌^◌, ◌∙◌, ◌∷◌, ◌≡◌, ◌≤◌}
use Rattle.std.specs.Option.{option_map}
use Rattle.cap_model.specs.declared.object.Object.TheVariants as objects
use Rattle.capdl_text.specs.TokenFaults.{is_left_out_word}
use Rattle.system_spec.specs.declared.series.Series.TheVariants as series
use Rattle.spec_laws.proofs.CapsFit.{all_pass}
use Rattle.spec_laws.proofs.Lengths.{AreShort}
use Rattle.spec_laws.proofs.TablesKept.{from_tables, mappings, moved, object_is, standing}
use Rattle.capdl_text.proofs.Tokens.{word_or}

-- ---- names

prefix_name : (s : Series) → is_name (prefix s) ≡ true
prefix_name series.CNode = refl
prefix_name _ = refl

prefix_short : (s : Series) → length (prefix s) ≤ 6
prefix_short series.CNode = omega arith
prefix_short _ = omega arith

-- no word that is left out begins as a name does
left_in : (s : Series) (rest : List ℕ) → is_left_out_word (prefix s ++ rest) ≡ false
unfolding is_left_out_word
left_in series.CNode rest = refl
left_in _ rest = refl

pub part_word : (p : Part) → p.number < 2 ^ 32 → is_word (part_name p) ≡ true
part_word p l = grind (arith, and_from, is_name-numbered, prefix_name, prefix_short, not_from_false, left_in)

pub part_short : (p : Part) → p.number < 2 ^ 32 → length (part_name p) ≤ 16
part_short p l =
    let d = length-decimal-le 10 p.number (omega arith) (omega (arith, l)) (omega (arith, l)) in
    omega (arith, d, length-append (prefix p.series) (decimal p.number), prefix_short p.series)

-- ---- texts of programs' names

not_byte : (c b : ℕ) → is_word_byte c ≡ false → is_word_byte b ≡ true → not (b == c) ≡ true
not_byte c b n w =
    not_from_false (b == c) (false_from_ne_true (b == c) (λ e. true≢false (sym w ∙ ap is_word_byte (eqb-true b c e) ∙ n)))

byte_plain : (b : ℕ) → is_word_byte b ≡ true → not (b == 34) && not (b == 10) ≡ true
byte_plain b w = and_from (not (b == 34)) (not (b == 10)) (not_byte 34 b refl w) (not_byte 10 b refl w)

bytes_plain : (bs : List ℕ) → list_all is_word_byte bs ≡ true → is_plain bs ≡ true
bytes_plain [] h = refl
bytes_plain (b ∷ bs) h =
    let p = and_parts (is_word_byte b) (list_all is_word_byte bs) h in
    and_from (not (b == 34) && not (b == 10)) (is_plain bs) (byte_plain b p.0) (bytes_plain bs p.1)

pub name_plain : (text : List ℕ) → is_name text ≡ true → is_plain text ≡ true
name_plain [] h = refl
name_plain (b ∷ bs) h = search (rules, and_parts, and_from, byte_plain, word_or, bytes_plain)

-- ---- numbers

pub number_is : (n : ℕ) → n < 2 ^ 64 → is_number n ≡ true
number_is n l = lt-ltb n (2 ^ 64) l

shape_small : (a : Arch) (l : Shape) → IsIn l (shapes a) → l.entries ≤ 4096
shape_small Arm11 l (inl e) = let n = ap (λ (z : Shape). z.entries) e in omega (arith, n)
shape_small Arm11 l (inr (inl e)) = let n = ap (λ (z : Shape). z.entries) e in omega (arith, n)
shape_small Arm11 l (inr (inr i)) = absurd i
shape_small Aarch64 l (inl e) = let n = ap (λ (z : Shape). z.entries) e in omega (arith, n)
shape_small Aarch64 l (inr (inl e)) = let n = ap (λ (z : Shape). z.entries) e in omega (arith, n)
shape_small Aarch64 l (inr (inr (inl e))) = let n = ap (λ (z : Shape). z.entries) e in omega (arith, n)
shape_small Aarch64 l (inr (inr (inr (inl e)))) = let n = ap (λ (z : Shape). z.entries) e in omega (arith, n)
shape_small Aarch64 l (inr (inr (inr (inr i)))) = absurd i

slot_is : (s : ℕ × Cap) → s.0 < 2 ^ 64 → s.1.badge < 2 ^ 64 → is_number s.0 && is_number s.1.badge ≡ true
slot_is s a b = and_from (is_number s.0) (is_number s.1.badge) (number_is s.0 a) (number_is s.1.badge b)

-- ---- objects

module _ (t : Tables) (fit : IsFit t) (written : IsWritten t) where
  badge_few : (k m : ℕ) (o : Option (Connector × FlatEnd))
      → option_map_or (λ (e : Connector × FlatEnd). role_badge e.1.role (settled_badge t.settled k m)) o 0 < 2 ^ 64
  badge_few k m None = omega arith
  badge_few k m (Some e) = search (rules)

  use_badge : (d n : ℕ) (u : SlotUse) → (use_cap t d n u).badge < 2 ^ 64
  use_badge d n (OfEnd k m) = badge_few k m (end_of t.flat k m)
  use_badge d n _ = omega arith

  cnode_laid : (d : ℕ) (x : Domain) → slice_get t.flat.domains d ≡ Some x → are_slots (slots_at t d) ≡ true
  cnode_laid d x here = search (rules, all_pass, from_gather, slice_get_within, slot_is, use_badge)

  buffer_laid : (o : Option ℕ)
      → if_any (λ (c : Cap). is_number c.badge) (option_map (λ f. cap (place t (FrameOf f)) RW 0) o) ≡ true
  buffer_laid None = refl
  buffer_laid (Some f) = refl

  tcb_laid : (d : ℕ) (y : ThreadPlace) → IsThreadWritten t y → is_tcb (tcb t d y) ≡ true
  tcb_laid d y w = search (rules, and_from, number_is, name_plain, buffer_laid)

  paddr_laid : (o : Option ℕ) → ((at : ℕ) → o ≡ Some at → at < 2 ^ 64) → if_any is_number o ≡ true
  paddr_laid None h = refl
  paddr_laid (Some at) h = number_is at (h at refl)

  fill_laid : (o : Option Fill) → ((f : Fill) → o ≡ Some f → IsFillWritten f) → if_any is_fill o ≡ true
  fill_laid None h = refl
  fill_laid (Some f) h = let w = h f refl in and_from (is_plain f.file) (is_number f.at) (name_plain f.file w.file)
      (number_is f.at w.at)

  frame_laid : (x : FrameInfo) → IsFrameWritten x → is_laid (frame_object x) ≡ true
  frame_laid x w = and_from (if_any is_number x.paddr) (if_any is_fill x.fill) (paddr_laid x.paddr w.paddr)
      (fill_laid x.fill w.fill)

  module _ (d : ℕ) (x : Domain) (here : slice_get t.flat.domains d ≡ Some x) where
    abbrev first : ℕ
    first = place t (TableOf d 0)

    -- the badges of page tables' capabilities are none
    no_badge : (o : Object) → IsIn o (standing t d) → (y : Layer) (r : List Mapping) (link : ℕ) → table_of y.shape link r ≡ o
        → (s : ℕ × Cap) → IsIn s (map (slot_of y.shape link) r) → s.1.badge ≡ 0
    no_badge o i y r link e s j = search (rules, slots_lead, mappings, standing, from_map)

    table_laid : (o : Object) → IsIn o (standing t d) → (y : Layer) → IsIn y (layers (shapes (arch t)) (mappings t fit d x here))
        → (r : List Mapping) (link : ℕ) → table_of y.shape link r ≡ o → is_laid (table_of y.shape link r) ≡ true
    table_laid o i y j r link e =
        all_pass (λ (s : ℕ × Cap). is_number s.0 && is_number s.1.badge) (map (slot_of y.shape link) r)
        (λ s k. let below = slots_below (arch t) (mappings t fit d x here) y j r link s k in
        let small = shape_small (arch t) y.shape (shape_of_layer (shapes (arch t)) (mappings t fit d x here) y j) in
        slot_is s (omega (arith, below, small)) (omega (arith, no_badge o i y r link e s k)))

    pub standing_laid : (o : Object) → IsIn o (standing t d) → (is_laid o ≡ true) × AreShort o
    standing_laid o i = search (rules, from_tables, mappings, table_laid)

    table_there : (j : ℕ) → IsThere t (TableOf d j) → (is_laid (object t (TableOf d j)) ≡ true)
        × AreShort (object t (TableOf d j))
    table_there j h =
        let m = moved t 0 0 first (place t (FrameOf 0)) d j h.1.0 h.1.1 in
        subst (λ z. (is_laid z ≡ true) × AreShort z) (sym (object_is t d j m.0 m.1))
        (standing_laid m.0 (in_place m.0 (standing t d) j m.1))

  -- ---- all

  abbrev Fine : Object → Type 0
  Fine o = (is_laid o ≡ true) × AreShort o

  thread_there : (d i : ℕ) (o : Option ThreadPlace) → ((y : ThreadPlace) → o ≡ Some y → IsIn y (threads_at t d))
      → Fine (option_map_or (λ (z : ThreadPlace). objects.Thread (tcb t d z)) o objects.Endpoint)
  thread_there d i None h = (refl, tt)
  thread_there d i (Some y) h =
      let w = written.threads d y (h y refl) in (
        tcb_laid d y w,
        λ elf e. subst (λ (z : List ℕ). length z ≤ 127) (same_Some (leaf_name t y.leaf) elf e)
            (name_short (leaf_name t y.leaf) w.name),
      )

  frame_there : (o : Option FrameInfo) → ((x : FrameInfo) → o ≡ Some x → IsIn x t.spaces.frames)
      → Fine (option_map_or frame_object o objects.Endpoint)
  frame_there None h = (refl, tt)
  frame_there (Some x) h = let w = written.frames x (h x refl) in (frame_laid x w, λ f e. name_short f.file (w.fill f e).file)

  pub fine_there : (w : What) → IsThere t w → Fine (object t w)
  fine_there (CNodeOf d) h = (cnode_laid d h.0 h.1, tt)
  fine_there (ThreadOf d i) h = thread_there d i (slice_get (threads_at t d) i) (λ y e. in_place y (threads_at t d) i e)
  fine_there (TableOf d j) h = table_there d h.0.0 h.0.1 j h
  fine_there (FrameOf f) h = frame_there (slice_get t.spaces.frames f) (λ x e. in_place x t.spaces.frames f e)
  fine_there _ h = (refl, tt)
