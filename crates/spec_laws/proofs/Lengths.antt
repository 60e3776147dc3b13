-- How long the lines of a canonical text are, where names are short.
use Rattle.spec_laws.proofs.Common.{Aarch64, Arch, Arm11, Bool, CNode, Cap, Directory, Endpoint, Fill, Frame, IsIn, Level, List, None, Object, Option, Pages, Rights, Some, Spec, Tcb, Thread, [], and_parts, arch_word}
use Rattle.spec_laws.proofs.Common.{are_slots, arith, buffer_line, cap_end, caps_of, cond_both, decimal, elf_field, entry_line, entry_text, false, fill_field, flat_map, frame_line, has_slot, holder_text, if_any, inl, inr, irq_line, irq_text, is_laid}
use Rattle.spec_laws.proofs.Common.{is_number, is_tcb, keeps, keeps_fill, leb, leb-true, length, length_append, level_word, ltb-true, name_at, named_line, nat_lt, object_line, paddr_field, params, refl, slots_text, some, suc, tcb_line}
use Rattle.spec_laws.proofs.Common.{tcb_text, true, zero, ℕ, ◌&&◌, ◌*◌, ◌++◌, ◌+◌, ◌<◌, ◌^◌, ◌∷◌, ◌≡◌, ◌≤◌}
use Rattle.std.specs.Prelude.{◌/◌, ◌%◌, codes}
use Rattle.cam_base.specs.Hex.{glyph, hex_digits, hex_text}
use Rattle.cam_base.specs.Texts.{◌⊹◌, together}
use Rattle.cap_model.specs.Canonical.{canonical, slot_line}
use Rattle.cap_model.specs.declared.object.Object.TheVariants.{Notification, Irq}
use Rattle.cap_model.specs.RightsWord.{letter, rights_word}
use Rattle.spec_laws.proofs.Totals.{length_flat_map, total_each}
use Rattle.cam_base.proofs.ShortTexts.{all_short, decimal_short}

-- ---- texts in parts

pub joined : (a b : List ℕ) (m n : ℕ) → length a ≤ m → length b ≤ n → length (a ⊹ b) ≤ m + n
unfolding ◌⊹◌
joined a b m n h k = let l = length_append a b in omega (arith, l, h, k)

more : (a : List ℕ) (m n : ℕ) → length a ≤ m → m ≤ n → length a ≤ n
more a m n h l = omega (arith, h, l)

-- ---- numbers

digits_short : (room n : ℕ) → length (hex_digits room n) ≤ room
unfolding hex_digits
digits_short zero n = omega arith
digits_short (suc room) n =
    let ih = digits_short room (n / 16) in
    cond_both (nat_lt n 16) (glyph n ∷ []) (hex_digits room (n / 16) ++ glyph (n % 16) ∷ []) (λ (z : List ℕ). length z ≤ suc room)
    (λ e. omega arith) (λ e. omega (arith, ih, length_append (hex_digits room (n / 16)) (glyph (n % 16) ∷ [])))

hex_short : (n : ℕ) → length (hex_text n) ≤ 18
unfolding hex_text
hex_short n = let d = digits_short 16 n in let l = length_append (codes "0x") (hex_digits 16 n) in omega (arith, d, l)

number : (n : ℕ) → is_number n ≡ true → n < 2 ^ 64
number n h = ltb-true n (2 ^ 64) h

-- ---- capabilities

letter_short : (b : Bool) (l : ℕ) (xs : List ℕ) (n : ℕ) → length xs ≤ n → length (letter b l xs) ≤ n + 1
letter_short true l xs n h = omega (arith, h)
letter_short false l xs n h = omega (arith, h)

rights_short : (r : Rights) → length (rights_word r) ≤ 4
rights_short r = grind (arith, letter_short)

params_short : (a b : Bool) (r : Rights) (badge : ℕ) → badge < 2 ^ 64 → length (params a b r badge) ≤ 36
params_short false false r badge l = omega arith
params_short true false r badge l =
    more (params true false r badge) 7 36 (all_short (2 ∷ 4 ∷ 1 ∷ []) (codes " (" ∷ rights_word r ∷ codes ")" ∷ [])
    (omega arith, (rights_short r, (omega arith, tt)))) (omega arith)
params_short false true r badge l =
    more (params false true r badge) 30 36 (all_short (9 ∷ 20 ∷ 1 ∷ []) (codes " (badge: " ∷ decimal badge ∷ codes ")" ∷ [])
    (omega arith, (decimal_short badge l, (omega arith, tt)))) (omega arith)
params_short true true r badge l =
    all_short (2 ∷ 4 ∷ 9 ∷ 20 ∷ 1 ∷ []) (codes " (" ∷ rights_word r ∷ codes ", badge: " ∷ decimal badge ∷ codes ")" ∷ [])
    (omega arith, (rights_short r, (omega arith, (decimal_short badge l, (omega arith, tt)))))

-- ---- lines of objects

-- what a line is longer by than that of a CNode
abbrev pub extra : Object → ℕ
extra (Thread tcb) = 209
extra (Frame paddr fill) = 229
extra _ = 0

-- files have short names
abbrev pub AreShort : Object → Type 0
AreShort (Thread tcb) = (elf : List ℕ) → tcb.elf ≡ Some elf → length elf ≤ 127
AreShort (Frame paddr fill) = (f : Fill) → fill ≡ Some f → length f.file ≤ 127
AreShort _ = Unit {0}

elf_short : (elf : Option (List ℕ)) → ((e : List ℕ) → elf ≡ Some e → length e ≤ 127) → length (elf_field elf) ≤ 136
elf_short None h = omega arith
elf_short (Some elf) h = all_short (8 ∷ 127 ∷ 1 ∷ []) (codes ", elf: \"" ∷ elf ∷ codes "\"" ∷ [])
    (omega arith, (h elf refl, (omega arith, tt)))

tcb_short : (name : List ℕ) (tcb : Tcb) → length name ≤ 16 → tcb.prio ≤ 255 → ((e : List ℕ) → tcb.elf ≡ Some e → length e ≤ 127)
    → length (tcb_line name tcb) ≤ 262
tcb_short name tcb n p h =
    let head = name ∷ codes " = tcb (addr: " ∷ hex_text tcb.addr ∷ codes ", ip: " ∷ hex_text tcb.ip ∷ codes ", sp: "
    ∷ hex_text tcb.sp ∷ [] in
    let tail = codes ", prio: " ∷ decimal tcb.prio ∷ codes ")\n" ∷ [] in
    let a = all_short (16 ∷ 14 ∷ 18 ∷ 6 ∷ 18 ∷ 6 ∷ 18 ∷ []) head
    (n, (omega arith, (hex_short tcb.addr, (omega arith, (hex_short tcb.ip, (omega arith, (hex_short tcb.sp, tt))))))) in
    let c = all_short (8 ∷ 20 ∷ 2 ∷ []) tail (omega arith, (decimal_short tcb.prio (omega (arith, p)), (omega arith, tt))) in
    joined (together head ⊹ elf_field tcb.elf) (together tail) 232 30 (joined (together head) (elf_field tcb.elf) 96 136 a
    (elf_short tcb.elf h)) c

paddr_short : (paddr : Option ℕ) → length (paddr_field paddr) ≤ 27
paddr_short None = omega arith
paddr_short (Some paddr) = all_short (9 ∷ 18 ∷ []) (codes ", paddr: " ∷ hex_text paddr ∷ []) (omega arith, (hex_short paddr, tt))

fill_short : (fill : Option Fill) → if_any keeps_fill fill ≡ true → ((f : Fill) → fill ≡ Some f → length f.file ≤ 127)
    → length (fill_field fill) ≤ 225
fill_short None k h = omega arith
fill_short (Some f) k h =
    let within = leb-true (f.offset + f.length) 4096 (and_parts (nat_lt 0 f.length) (leb (f.offset + f.length) 4096) k).1 in
    all_short (10 ∷ 20 ∷ 1 ∷ 20 ∷ 25 ∷ 127 ∷ 2 ∷ 18 ∷ 2 ∷ [])
    (codes ", fill: [{" ∷ decimal f.offset ∷ codes " " ∷ decimal f.length ∷ codes " CDL_FrameFill_FileData \"" ∷ f.file
    ∷ codes "\" " ∷ hex_text f.at ∷ codes "}]" ∷ []) (
      omega arith,
      (
        decimal_short f.offset (omega (arith, within)),
        (
          omega arith,
          (
            decimal_short f.length (omega (arith, within)),
            (omega arith, (h f refl, (omega arith, (hex_short f.at, (omega arith, tt))))),
          ),
        ),
      ),
    )

frame_short : (name : List ℕ) (paddr : Option ℕ) (fill : Option Fill) → length name ≤ 16 → if_any keeps_fill fill ≡ true
    → ((f : Fill) → fill ≡ Some f → length f.file ≤ 127) → length (frame_line name paddr fill) ≤ 282
frame_short name paddr fill n k h =
    let head = name ∷ codes " = frame (4k" ∷ [] in
    let a = all_short (16 ∷ 12 ∷ []) head (n, (omega arith, tt)) in
    joined (together head ⊹ paddr_field paddr ⊹ fill_field fill) (codes ")\n") 280 2
    (joined (together head ⊹ paddr_field paddr) (fill_field fill) 55 225 (joined (together head) (paddr_field paddr) 28 27 a
    (paddr_short paddr)) (fill_short fill k h)) (omega arith)

level_short : (l : Level) → length (level_word l) ≤ 3
level_short Directory = omega arith
level_short _ = omega arith

pub line_short : (spec : Spec) (name : List ℕ) (o : Object) → length name ≤ 16 → keeps spec o ≡ true → AreShort o
    → length (object_line name o) ≤ 53 + extra o
line_short spec name Endpoint n k h =
    let s = all_short (16 ∷ 6 ∷ []) (name ∷ codes " = ep\n" ∷ []) (n, (omega arith, tt)) in
    more (object_line name Endpoint) 22 53 s (omega arith)
line_short spec name Notification n k h =
    let s = all_short (16 ∷ 16 ∷ []) (name ∷ codes " = notification\n" ∷ []) (n, (omega arith, tt)) in
    more (object_line name Notification) 32 53 s (omega arith)
line_short spec name (CNode bits slots) n k h =
    let few = leb-true bits 16 (and_parts (nat_lt 0 bits) (leb bits 16) (and_parts (nat_lt 0 bits && leb bits 16) _ k).0).1 in
    all_short (16 ∷ 10 ∷ 20 ∷ 7 ∷ []) (name ∷ codes " = cnode (" ∷ decimal bits ∷ codes " bits)\n" ∷ [])
    (n, (omega arith, (decimal_short bits (omega (arith, few)), (omega arith, tt))))
line_short spec name (Thread tcb) n k h =
    tcb_short name tcb n (leb-true tcb.prio 255 (and_parts (leb tcb.prio 255) _ (and_parts (leb tcb.prio 255 && _) _ k).0).0) h
line_short spec name (Frame paddr fill) n k h = frame_short name paddr fill n (and_parts _ (if_any keeps_fill fill) k).1 h
line_short spec name (Pages level slots) n k h =
    more (object_line name (Pages level slots)) 23 53 (all_short (16 ∷ 3 ∷ 3 ∷ 1 ∷ []) (name ∷ codes " = " ∷ level_word level
    ∷ codes "\n" ∷ []) (n, (omega arith, (level_short level, (omega arith, tt))))) (omega arith)
line_short spec name (Irq notification) n k h =
    let s = all_short (16 ∷ 7 ∷ []) (name ∷ codes " = irq\n" ∷ []) (n, (omega arith, tt)) in
    more (object_line name (Irq notification)) 23 53 s (omega arith)

-- ---- holders

module _ (spec : Spec) (names : (o : ℕ) → length (name_at spec o) ≤ 16) where
  cap_short : (c : Cap) → c.badge < 2 ^ 64 → length (cap_end spec c) ≤ 53
  cap_short c l = grind (arith, joined, params_short)

  slot_short : (s : ℕ × Cap) → s.1.badge < 2 ^ 64 → length (slot_line spec s) ≤ 73
  slot_short s l =
      let head = hex_text s.0 ∷ codes ": " ∷ [] in
      joined (together head) (cap_end spec s.1) 20 53 (all_short (18 ∷ 2 ∷ []) head (hex_short s.0, (omega arith, tt)))
      (cap_short s.1 l)

  badge_of : (slots : List (ℕ × Cap)) (s : ℕ × Cap) → are_slots slots ≡ true → IsIn s slots → s.1.badge < 2 ^ 64
  badge_of [] s h i = absurd i
  badge_of (x ∷ xs) s h (inl e) = grind (arith, and_parts, number)
  badge_of (x ∷ xs) s h (inr i) = badge_of xs s (and_parts (is_number x.0 && is_number x.1.badge) (are_slots xs) h).1 i

  slots_short : (name : List ℕ) (slots : List (ℕ × Cap)) → length name ≤ 16 → are_slots slots ≡ true
      → length (slots_text spec name slots) ≤ 21 + 73 * length slots
  slots_short name [] n h = omega arith
  slots_short name (s ∷ ss) n h =
      let head = name ∷ codes " {\n" ∷ [] in
      let text = flat_map (slot_line spec) (s ∷ ss) in let m = 73 * length (s ∷ ss) in
      let b = total_each (λ x. length (slot_line spec x)) 73 (s ∷ ss) (λ x i. slot_short x (badge_of (s ∷ ss) x h i)) in
      let c : length text ≤ m = omega (arith, length_flat_map (slot_line spec) (s ∷ ss), b) in
      let d = joined (together head ⊹ text) (codes "}\n") (19 + m) 2
      (joined (together head) text 19 m (all_short (16 ∷ 3 ∷ []) head (n, (omega arith, tt))) c) (omega arith) in
      omega (arith, d)

  named_short : (word : List ℕ) (o : Option ℕ) → length word ≤ 8 → length (named_line spec word o) ≤ 73 * some o
  named_short word None h = omega arith
  named_short word (Some o) h =
      let s = all_short (8 ∷ 16 ∷ 1 ∷ []) (word ∷ name_at spec o ∷ codes "\n" ∷ []) (h, (names o, (omega arith, tt))) in
      more (named_line spec word (Some o)) 25 73 s (omega arith)

  buffer_short : (o : Option Cap) → if_any (λ c. is_number c.badge) o ≡ true → length (buffer_line spec o) ≤ 73 * some o
  buffer_short None h = omega arith
  buffer_short (Some c) h = grind (arith, joined, cap_short, number, more)

  tcb_text_short : (name : List ℕ) (tcb : Tcb) (b : Bool) → length name ≤ 16 → is_tcb tcb ≡ true
      → length (tcb_text spec name tcb b) ≤ 21 + 73 * caps_of (Thread tcb)
  tcb_text_short name tcb false n h = omega arith
  tcb_text_short name tcb true n h =
      let head = name ∷ codes " {\n" ∷ [] in
      let x = named_line spec (codes "cspace: ") tcb.cspace in
      let y = named_line spec (codes "vspace: ") tcb.vspace in let z = buffer_line spec tcb.buffer in
      let a = 73 * some tcb.cspace in let b = 73 * some tcb.vspace in
      let c = 73 * some tcb.buffer in
      let q = and_parts (is_number tcb.sp) _ (and_parts (is_number tcb.addr && is_number tcb.ip) _ h).1 in
      let first = all_short (16 ∷ 3 ∷ []) head (n, (omega arith, tt)) in
      let s = joined (together head ⊹ x ⊹ y ⊹ z) (codes "}\n") (19 + a + b + c) 2 (joined (together head ⊹ x ⊹ y) z (19 + a + b) c
      (joined (together head ⊹ x) y (19 + a) b
      (joined (together head) x 19 a first (named_short (codes "cspace: ") tcb.cspace (omega arith)))
      (named_short (codes "vspace: ") tcb.vspace (omega arith)))
      (buffer_short tcb.buffer ((and_parts _ (if_any (λ c. is_number c.badge) tcb.buffer) q.1).1))) (omega arith) in
      omega (arith, s)

  irq_text_short : (name : List ℕ) (o : Option ℕ) → length name ≤ 16 → length (irq_text spec name o) ≤ 21 + 73 * caps_of (Irq o)
  irq_text_short name None n = omega arith
  irq_text_short name (Some o) n =
      more (irq_text spec name (Some o)) 43 94 (all_short (16 ∷ 8 ∷ 16 ∷ 3 ∷ []) (name ∷ codes " {\n0x0: " ∷ name_at spec o
      ∷ codes "\n}\n" ∷ []) (n, (omega arith, (names o, (omega arith, tt))))) (omega arith)

  pub holder_short : (name : List ℕ) (o : Object) → length name ≤ 16 → is_laid o ≡ true
      → length (holder_text spec name o) ≤ 21 + 73 * caps_of o
  holder_short name (CNode bits slots) n h = slots_short name slots n h
  holder_short name (Thread tcb) n h = tcb_text_short name tcb (has_slot tcb) n h
  holder_short name (Pages level slots) n h = slots_short name slots n h
  holder_short name (Irq notification) n h = irq_text_short name notification n
  holder_short name _ n h = omega arith

  -- ---- interrupt lines, and the whole

  pub irq_short : (l : ℕ × ℕ) → l.0 < 2 ^ 64 → length (irq_line spec l) ≤ 39
  irq_short l h =
      all_short (20 ∷ 2 ∷ 16 ∷ 1 ∷ []) (decimal l.0 ∷ codes ": " ∷ name_at spec l.1 ∷ codes "\n" ∷ []) (
        decimal_short l.0 h,
        (omega arith, (names l.1, (omega arith, tt))),
      )

  arch_short : (a : Arch) → length (arch_word a) ≤ 7
  arch_short Arm11 = omega arith
  arch_short Aarch64 = omega arith

  pub canonical_short : (a b c : ℕ) → length (flat_map entry_line spec.entries) ≤ a
      → length (flat_map (entry_text spec) spec.entries) ≤ b → length (flat_map (irq_line spec) spec.irqs) ≤ c
      → length (canonical spec) ≤ 50 + (a + b + c)
  unfolding canonical
  canonical_short a b c p q r =
      let head = codes "arch " ∷ arch_word spec.arch ∷ codes "\n\nobjects {\n" ∷ [] in
      let x = flat_map entry_line spec.entries in let y = flat_map (entry_text spec) spec.entries in
      let z = flat_map (irq_line spec) spec.irqs in
      let first = all_short (5 ∷ 7 ∷ 12 ∷ []) head (omega arith, (arch_short spec.arch, (omega arith, tt))) in
      let s1 = joined (together head) x 24 a first p in
      let s2 = joined (together head ⊹ x) (codes "}\n\ncaps {\n") (24 + a) 10 s1 (omega arith) in
      let s4 = joined (together head ⊹ x ⊹ codes "}\n\ncaps {\n" ⊹ y) (codes "}\n\nirq maps {\n") (24 + a + 10 + b) 14
      (joined (together head ⊹ x ⊹ codes "}\n\ncaps {\n") y (24 + a + 10) b s2 q) (omega arith) in
      let s5 = joined (together head ⊹ x ⊹ codes "}\n\ncaps {\n" ⊹ y ⊹ codes "}\n\nirq maps {\n") z
      (24 + a + 10 + b + 14) c s4 r in
      let s6 = joined (together head ⊹ x ⊹ codes "}\n\ncaps {\n" ⊹ y ⊹ codes "}\n\nirq maps {\n" ⊹ z) (codes "}\n")
      (24 + a + 10 + b + 14 + c) 2 s5 (omega arith) in
      omega (arith, s6)
