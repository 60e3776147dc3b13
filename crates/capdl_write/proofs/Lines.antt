-- The canonical text of a spec is laid out of its pieces.
use Rattle.capdl_write.proofs.Common.{Bool, CNode, Cap, Endpoint, Entry, Fill, Frame, Irq, List, None, Notification, Object, Option, Pages, Piece, Rights, Some, Spec, Tcb, Thread, [], ap, append-nil, append_assoc, arch_word, buffer_line}
use Rattle.capdl_write.proofs.Common.{buffer_pieces, cap_end, cap_pieces, caps_pieces, codes, decimal, elf_field, elf_pieces, entry_line, entry_text, false, fill_field, fill_pieces, flat_map, frame_line, has_slot, held_irq, held_pieces}
use Rattle.capdl_write.proofs.Common.{held_slots, held_tcb, holder_text, holders_pieces, irq_line, irq_text, irqs_pieces, laid, last_pieces, level_word, name_at, named_line, named_pieces, object_line, object_pieces, objects_pieces, paddr_field}
use Rattle.capdl_write.proofs.Common.{paddr_pieces, params, pieces, refl, rights_word, rules, slot_line, slots_pieces, slots_text, sym, target_pieces, tcb_line, tcb_text, true, ℕ, ◌++◌, ◌∙◌, ◌∷◌, ◌≡◌}
use Rattle.cam_base.specs.Hex.{hex_digits, hex_text}
use Rattle.cam_base.specs.Texts.{◌⊹◌, together}
use Rattle.cap_model.specs.Canonical.{canonical}

-- the parts one behind another, in front of the rest
chain : List (List ℕ) → List ℕ → List ℕ
chain [] rest = rest
chain (x ∷ xs) rest = x ++ chain xs rest

parts : (xs : List (List ℕ)) (rest : List ℕ) → together xs ++ rest ≡ chain xs rest
unfolding together chain
parts [] rest = refl
parts (x ∷ xs) rest = append_assoc x (flat_map (λ x. x) xs) rest ∙ ap (λ z. x ++ z) (parts xs rest)

behind : (a b rest : List ℕ) → (a ⊹ b) ++ rest ≡ a ++ (b ++ rest)
unfolding ◌⊹◌
behind a b rest = append_assoc a b rest

three : (a b c rest : List ℕ) → (a ⊹ b ⊹ c) ++ rest ≡ a ++ (b ++ (c ++ rest))
three a b c rest = behind (a ⊹ b) c rest ∙ behind a b (c ++ rest)

four : (a b c d rest : List ℕ) → (a ⊹ b ⊹ c ⊹ d) ++ rest ≡ a ++ (b ++ (c ++ (d ++ rest)))
four a b c d rest = behind (a ⊹ b ⊹ c) d rest ∙ three a b c (d ++ rest)

-- ---- objects

elf_is : (elf : Option (List ℕ)) (more : List Piece) → laid (elf_pieces elf more) ≡ elf_field elf ++ laid more
unfolding chain
elf_is None more = refl
elf_is (Some elf) more = search (rules, append_assoc, parts)

tcb_is : (name : List ℕ) (tcb : Tcb) (more : List Piece) → laid (object_pieces name (Thread tcb) more) ≡ tcb_line name
    tcb ++ laid more
unfolding chain
tcb_is name tcb more = search (rules, chain, elf_is, parts, three)

paddr_is : (paddr : Option ℕ) (more : List Piece) → laid (paddr_pieces paddr more) ≡ paddr_field paddr ++ laid more
unfolding chain
paddr_is None more = refl
paddr_is (Some paddr) more = sym (parts (codes ", paddr: " ∷ hex_text paddr ∷ []) (laid more))

fill_is : (fill : Option Fill) (more : List Piece) → laid (fill_pieces fill more) ≡ fill_field fill ++ laid more
unfolding chain
fill_is None more = refl
fill_is (Some fill) more = search (rules, append_assoc, parts)

frame_is : (name : List ℕ) (paddr : Option ℕ) (fill : Option Fill) (more : List Piece)
    → laid (object_pieces name (Frame paddr fill) more) ≡ frame_line name paddr fill ++ laid more
unfolding chain
frame_is name paddr fill more = search (rules, chain, paddr_is, fill_is, parts, four)

object_is : (name : List ℕ) (o : Object) (more : List Piece) → laid (object_pieces name o more) ≡ object_line name o ++ laid more
unfolding chain
object_is name Endpoint more = sym (parts (name ∷ codes " = ep\n" ∷ []) (laid more))
object_is name Notification more = sym (parts (name ∷ codes " = notification\n" ∷ []) (laid more))
object_is name (CNode bits slots) more =
    sym (parts (name ∷ codes " = cnode (" ∷ decimal bits ∷ codes " bits)\n" ∷ []) (laid more))
object_is name (Thread tcb) more = tcb_is name tcb more
object_is name (Frame paddr fill) more = frame_is name paddr fill more
object_is name (Pages level slots) more = sym (parts (name ∷ codes " = " ∷ level_word level ∷ codes "\n" ∷ []) (laid more))
object_is name (Irq notification) more = sym (parts (name ∷ codes " = irq\n" ∷ []) (laid more))

objects_are : (es : List Entry) (more : List Piece) → laid (objects_pieces es more) ≡ flat_map entry_line es ++ laid more
objects_are [] more = refl
objects_are (e ∷ es) more = object_is e.name e.object (objects_pieces es more) ∙ ap (λ z. entry_line e ++ z) (objects_are es more)
    ∙ sym (append_assoc (entry_line e) (flat_map entry_line es) (laid more))

-- ---- holders

target_is : (name : List ℕ) (r b : Bool) (rights : Rights) (badge : ℕ) (more : List Piece)
    → laid (target_pieces name r b rights badge more) ≡ name ++ (params r b rights badge ++ (codes "\n" ++ laid more))
unfolding chain
target_is name false false rights badge more = refl
target_is name true false rights badge more =
    ap (λ z. name ++ z) (sym (parts (codes " (" ∷ rights_word rights ∷ codes ")" ∷ []) (codes "\n" ++ laid more)))
target_is name false true rights badge more =
    ap (λ z. name ++ z) (sym (parts (codes " (badge: " ∷ decimal badge ∷ codes ")" ∷ []) (codes "\n" ++ laid more)))
target_is name true true rights badge more = search (rules, parts)

module _ (spec : Spec) where
  cap_is : (cap : Cap) (more : List Piece) → laid (cap_pieces spec cap more) ≡ cap_end spec cap ++ laid more
  cap_is cap more = search (rules, target_is, three)

  slot_is : (s : ℕ × Cap) (more : List Piece) → hex_text s.0 ++ (codes ": " ++ laid (cap_pieces spec s.1 more)) ≡ slot_line spec
      s ++ laid more
  unfolding chain
  slot_is s more = search (rules, cap_is, parts, behind)

  slots_are : (ss : List (ℕ × Cap)) (more : List Piece) → laid (slots_pieces spec ss more) ≡ flat_map (slot_line spec)
      ss ++ laid more
  slots_are [] more = refl
  slots_are (s ∷ ss) more = slot_is s (slots_pieces spec ss more) ∙ ap (λ z. slot_line spec s ++ z) (slots_are ss more)
      ∙ sym (append_assoc (slot_line spec s) (flat_map (slot_line spec) ss) (laid more))

  held_slots_are : (name : List ℕ) (ss : List (ℕ × Cap)) (more : List Piece)
      → laid (held_slots spec name ss more) ≡ slots_text spec name ss ++ laid more
  unfolding chain
  held_slots_are name [] more = refl
  held_slots_are name (s ∷ ss) more =
      let head = name ∷ codes " {\n" ∷ [] in
      ap (chain head) (slots_are (s ∷ ss) _) ∙ sym (parts head _)
      ∙ sym (three (together head) (flat_map (slot_line spec) (s ∷ ss)) (codes "}\n") (laid more))

  named_is : (key colon : List ℕ) (o : Option ℕ) (more : List Piece) → colon ≡ key ++ codes ": "
      → laid (named_pieces spec key o more) ≡ named_line spec colon o ++ laid more
  unfolding chain
  named_is key colon None more e = refl
  named_is key colon (Some object) more e = search (rules, append_assoc, parts)

  buffer_is : (b : Option Cap) (more : List Piece) → laid (buffer_pieces spec b more) ≡ buffer_line spec b ++ laid more
  buffer_is None more = refl
  buffer_is (Some cap) more = ap (λ z. codes "ipc_buffer_slot: " ++ z) (cap_is cap more)
      ∙ sym (behind (codes "ipc_buffer_slot: ") (cap_end spec cap) (laid more))

  held_tcb_is : (name : List ℕ) (tcb : Tcb) (some : Bool) (more : List Piece)
      → laid (held_tcb spec name tcb some more) ≡ tcb_text spec name tcb some ++ laid more
  unfolding chain
  held_tcb_is name tcb false more = refl
  held_tcb_is name tcb true more = search (rules, chain, named_is, buffer_is, parts, behind, four)

  held_irq_is : (name : List ℕ) (n : Option ℕ) (more : List Piece)
      → laid (held_irq spec name n more) ≡ irq_text spec name n ++ laid more
  unfolding chain hex_text hex_digits
  held_irq_is name None more = refl
  held_irq_is name (Some n) more = search (rules, parts, chain)

  held_is : (name : List ℕ) (o : Object) (more : List Piece) → laid (held_pieces spec name o more) ≡ holder_text spec name
      o ++ laid more
  held_is name (CNode bits slots) more = held_slots_are name slots more
  held_is name (Thread tcb) more = held_tcb_is name tcb (has_slot tcb) more
  held_is name (Pages level slots) more = held_slots_are name slots more
  held_is name (Irq notification) more = held_irq_is name notification more
  held_is name _ more = refl

  holders_are : (es : List Entry) (more : List Piece) → laid (holders_pieces spec es more) ≡ flat_map (entry_text spec)
      es ++ laid more
  holders_are [] more = refl
  holders_are (e ∷ es) more = held_is e.name e.object (holders_pieces spec es more) ∙ ap (λ z. entry_text spec e ++ z)
      (holders_are es more) ∙ sym (append_assoc (entry_text spec e) (flat_map (entry_text spec) es) (laid more))

  -- ---- the whole

  lines_are : (ls : List (ℕ × ℕ)) (more : List Piece) → laid (irqs_pieces spec ls more) ≡ flat_map (irq_line spec) ls ++ laid more
  unfolding chain
  lines_are [] more = refl
  lines_are (l ∷ ls) more =
      sym (parts (decimal l.0 ∷ codes ": " ∷ name_at spec l.1 ∷ codes "\n" ∷ []) _) ∙ ap (λ z. irq_line spec l ++ z)
      (lines_are ls more) ∙ sym (append_assoc (irq_line spec l) (flat_map (irq_line spec) ls) (laid more))

pub all_laid : (spec : Spec) → canonical spec ≡ laid (pieces spec)
unfolding canonical chain
all_laid spec =
    let head = codes "arch " ∷ arch_word spec.arch ∷ codes "\n\nobjects {\n" ∷ [] in
    let a = flat_map entry_line spec.entries in let b = flat_map (entry_text spec) spec.entries in
    let c = flat_map (irq_line spec) spec.irqs in
    let mid = codes "}\n\ncaps {\n" in
    let last = codes "}\n\nirq maps {\n" in
    let end = codes "}\n" in
    let plain : canonical spec ≡ together head ++ (a ++ (mid ++ (b ++ (last ++ (c ++ end))))) = sym (append-nil (canonical spec))
    ∙ behind (together head ⊹ a ⊹ mid ⊹ b ⊹ last ⊹ c) end [] ∙ behind (together head ⊹ a ⊹ mid ⊹ b ⊹ last) c (end ++ [])
    ∙ behind (together head ⊹ a ⊹ mid ⊹ b) last (c ++ (end ++ [])) ∙ four (together head) a mid b (last ++ (c ++ (end ++ []))) in
    sym (
    ap (chain head) (objects_are spec.entries (caps_pieces spec)) ∙ ap (λ z. chain head (a ++ (mid ++ z)))
    (holders_are spec spec.entries (last_pieces spec))
    ∙ ap (λ z. chain head (a ++ (mid ++ (b ++ (last ++ z))))) (lines_are spec spec.irqs _) ∙ sym (parts head _) ∙ sym plain
    )
