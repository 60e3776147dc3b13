-- Reading the tokens of a whole canonical text gives its tree: the lists of slots, holders and interrupt lines, and the whole.
use Rattle.std.proofs.Common.{rules}
use Rattle.capdl_write.proofs.Common.{Aarch64, Arch, Arm11, CNode, Cap, Entry, Holder, Irq, IsSpecSpelled, IsWritable, List, None, Object, Ok, Option, Pages, Piece, Seen, SlotKey, SlotLine, Some, Span, Spec, Tcb}
use Rattle.capdl_write.proofs.Common.{Thread, [], and_parts, arch_form, arch_word, brace_l, brace_r, buffer_pieces, caps_pieces, codes, colon, dec, false, has_rights, has_slot, held_irq, held_pieces, held_slots, held_tcb, hex, holder_eats}
use Rattle.capdl_write.proofs.Common.{holder_form, holder_pieces, holders_pieces, if_any, irq_eats, irq_form, irqs_pieces, is_left_out_word, is_name, is_number, is_word, key_codes, last_pieces, left_out_is, left_out_line, list_all, many, many_none}
use Rattle.capdl_write.proofs.Common.{mark_code, name_at, name_codes, named_pieces, not, number_code, objects_pieces, opens, pieces, reads, refl, slot_eats, slot_form, slots_pieces, spec_decides, starts, tcb_slots, token_code, true, whole, word}
use Rattle.capdl_write.proofs.Common.{word_of, ℕ, ◌&&◌, ◌==◌, ◌∷◌, ◌≡◌}
use Rattle.capdl_text.specs.declared.token.Mark.TheVariants as marks
use Rattle.capdl_text.specs.Forms.{holder_line, irq_line, irqs_line, maybe_irqs, arch_line, spec_line}
use Rattle.capdl_text.specs.declared.tree.SlotKey.TheVariants as keys
use Rattle.capdl_write.proofs.Named.{all_from, are_words, is_named, is_target, is_slot, has_named, is_line, all_named, lines_named}
use Rattle.capdl_write.proofs.ReadBack.{any, one_more, at_number, objects_at, read_objects, word-cspace, word-vspace, word-buffer, word-irq, word-maps, word-arch, word-arm11, word-aarch64, word-objects, word-caps}
use Rattle.capdl_write.proofs.ReadHolders.{no_rights_at, plain_at, read_slot, read_buffer, read_cspace, read_vspace, slot_at}
use Rattle.capdl_write.proofs.Shown.{shown}
use Rattle.cam_base.proofs.Theorems.{whole_found}
use Rattle.capdl_text.specs.declared.tree.SpecTree.{SpecTree}
use Rattle.capdl_text.specs.declared.tree.IrqLine.{IrqLine}

-- a word that can be written is a name
pub word_name : (n : List ℕ) → is_word n ≡ true → is_name n ≡ true
word_name n h = (and_parts (is_name n) (not (is_left_out_word n)) h).0

module _ (pl : List Piece → Span) where
  abbrev paren_code : List ℕ
  paren_code = mark_code marks.ParenL ∷ []

  -- ---- slots

  abbrev pub cap_at : Spec → SlotKey → Piece → Cap → List Piece → SlotLine
  cap_at spec key p cap more = slot_at pl key p (name_at spec cap.object) (has_rights cap.rights) (not (cap.badge == 0))
      cap.rights cap.badge more

  abbrev pub slots_at : Spec → List (ℕ × Cap) → List Piece → List SlotLine
  slots_at spec [] more = []
  slots_at spec (s ∷ ss) more = cap_at spec (keys.Number s.0) (hex s.0 []) s.1 (slots_pieces spec ss more) ∷ slots_at spec ss more

  target_name : (spec : Spec) (cap : Cap) → is_target spec cap ≡ true → is_name (name_at spec cap.object) ≡ true
  target_name spec cap h = word_name (name_at spec cap.object) (and_parts (is_named spec cap.object) (is_number cap.badge) h).0

  slots_paren : (spec : Spec) (ss : List (ℕ × Cap)) (more : List Piece) → starts token_code paren_code (shown pl more) ≡ false
      → starts token_code paren_code (shown pl (slots_pieces spec ss more)) ≡ false
  slots_paren spec [] more q = q
  slots_paren spec (s ∷ ss) more q = refl

  read_slots : (spec : Spec) (ss : List (ℕ × Cap)) (more : List Piece) → list_all (is_slot spec) ss ≡ true
      → starts token_code key_codes (shown pl more) ≡ false → starts token_code paren_code (shown pl more) ≡ false
      → many token_code key_codes (reads slot_form) (shown pl (slots_pieces spec ss more)) ≡ Ok (
        slots_at spec ss more,
        shown pl more,
      )
  read_slots spec [] more h s q = many_none token_code key_codes (reads slot_form) (shown pl more) s
  read_slots spec (x ∷ ss) more h s q =
      let k = and_parts (is_slot spec x) (list_all (is_slot spec) ss) h in
      let n = target_name spec x.1 (and_parts (is_number x.0) (is_target spec x.1) k.0).1 in
      one_more key_codes slot_form slot_eats _ _ _ _ _ refl (read_slot pl x.0 (name_at spec x.1.object) (has_rights x.1.rights)
      (not (x.1.badge == 0)) x.1.rights x.1.badge (slots_pieces spec ss more) n (λ e. e) (slots_paren spec ss more q))
      (read_slots spec ss more k.1 s q)

  -- ---- the slots of a thread

  abbrev pub buffer_at : Spec → Option Cap → List Piece → List SlotLine
  buffer_at spec None more = []
  buffer_at spec (Some cap) more = cap_at spec keys.Buffer (word (codes "ipc_buffer_slot") []) cap more ∷ []

  abbrev pub vspace_at : Spec → Option ℕ → Option Cap → List Piece → List SlotLine
  vspace_at spec None b more = buffer_at spec b more
  vspace_at spec (Some p) b more = plain_at pl keys.Vspace (codes "vspace") (name_at spec p) (buffer_pieces spec b more)
      ∷ buffer_at spec b more

  abbrev pub cspace_at : Spec → Option ℕ → Option ℕ → Option Cap → List Piece → List SlotLine
  cspace_at spec None v b more = vspace_at spec v b more
  cspace_at spec (Some p) v b more =
      plain_at pl keys.Cspace (codes "cspace") (name_at spec p) (named_pieces spec (codes "vspace") v (buffer_pieces spec b more))
      ∷ vspace_at spec v b more

  read_buffers : (spec : Spec) (b : Option Cap) (more : List Piece) → if_any (is_target spec) b ≡ true
      → starts token_code key_codes (shown pl more) ≡ false → starts token_code paren_code (shown pl more) ≡ false
      → many token_code key_codes (reads slot_form) (shown pl (buffer_pieces spec b more)) ≡ Ok (
        buffer_at spec b more,
        shown pl more,
      )
  read_buffers spec None more h s q = many_none token_code key_codes (reads slot_form) (shown pl more) s
  read_buffers spec (Some cap) more h s q =
      one_more key_codes slot_form slot_eats _ _ _ _ _ (rw word-buffer refl) (read_buffer pl (name_at spec cap.object)
      (has_rights cap.rights) (not (cap.badge == 0)) cap.rights cap.badge more (target_name spec cap h) (λ e. e) q)
      (many_none token_code key_codes (reads slot_form) (shown pl more) s)

  buffer_paren : (spec : Spec) (b : Option Cap) (more : List Piece) → starts token_code paren_code (shown pl more) ≡ false
      → starts token_code paren_code (shown pl (buffer_pieces spec b more)) ≡ false
  buffer_paren spec None more q = q
  buffer_paren spec (Some cap) more q = rw word-buffer refl

  read_vspaces : (spec : Spec) (v : Option ℕ) (b : Option Cap) (more : List Piece) → if_any (is_named spec) v ≡ true
      → if_any (is_target spec) b ≡ true → starts token_code key_codes (shown pl more) ≡ false
      → starts token_code paren_code (shown pl more) ≡ false
      → many token_code key_codes (reads slot_form) (shown pl (named_pieces spec (codes "vspace") v (buffer_pieces spec b more)))
      ≡ Ok (vspace_at spec v b more, shown pl more)
  read_vspaces spec None b more g h s q = read_buffers spec b more h s q
  read_vspaces spec (Some p) b more g h s q =
      one_more key_codes slot_form slot_eats _ _ _ _ _ (rw word-vspace refl)
      (read_vspace pl (name_at spec p) (buffer_pieces spec b more) (word_name (name_at spec p) g)
      (buffer_paren spec b more q)) (read_buffers spec b more h s q)

  vspace_paren : (spec : Spec) (v : Option ℕ) (b : Option Cap) (more : List Piece)
      → starts token_code paren_code (shown pl more) ≡ false
      → starts token_code paren_code (shown pl (named_pieces spec (codes "vspace") v (buffer_pieces spec b more))) ≡ false
  vspace_paren spec None b more q = buffer_paren spec b more q
  vspace_paren spec (Some p) b more q = rw word-vspace refl

  read_cspaces : (spec : Spec) (c v : Option ℕ) (b : Option Cap) (more : List Piece) → if_any (is_named spec) c ≡ true
      → if_any (is_named spec) v ≡ true → if_any (is_target spec) b ≡ true → starts token_code key_codes (shown pl more) ≡ false
      → starts token_code paren_code (shown pl more) ≡ false → many token_code key_codes (reads slot_form)
      (shown pl (named_pieces spec (codes "cspace") c (named_pieces spec (codes "vspace") v (buffer_pieces spec b more))))
      ≡ Ok (cspace_at spec c v b more, shown pl more)
  read_cspaces spec None v b more f g h s q = read_vspaces spec v b more g h s q
  read_cspaces spec (Some p) v b more f g h s q =
      one_more key_codes slot_form slot_eats _ _ _ _ _ (rw word-cspace refl)
      (read_cspace pl (name_at spec p) (named_pieces spec (codes "vspace") v (buffer_pieces spec b more))
      (word_name (name_at spec p) f) (vspace_paren spec v b more q)) (read_vspaces spec v b more g h s q)

  -- ---- holders

  -- the slot lines of an object, where more stands behind its holder
  abbrev pub irq_slot_at : Spec → Option ℕ → List Piece → List SlotLine
  irq_slot_at spec None more = []
  irq_slot_at spec (Some p) more = slot_at pl (keys.Number 0) (hex 0 []) (name_at spec p) false false
      (no_rights_at pl) 0 more ∷ []

  abbrev pub lines_at : Spec → Object → List Piece → List SlotLine
  lines_at spec (CNode bits slots) more = slots_at spec slots (brace_r (codes "\n") ∷ more)
  lines_at spec (Thread tcb) more = cspace_at spec tcb.cspace tcb.vspace tcb.buffer (brace_r (codes "\n") ∷ more)
  lines_at spec (Pages level slots) more = slots_at spec slots (brace_r (codes "\n") ∷ more)
  lines_at spec (Irq notification) more = irq_slot_at spec notification (brace_r (codes "\n") ∷ more)
  lines_at spec _ more = []

  -- a holder in front of others, where there are slot lines
  abbrev pub held_at : List ℕ → Span → List SlotLine → List Holder → List Holder
  held_at name place [] hs = hs
  held_at name place (s ∷ ss) hs = record { id = record { name = name; place = place }; slots = s ∷ ss } ∷ hs

  abbrev pub holders_at : Spec → List Entry → List Piece → List Holder
  holders_at spec [] more = []
  holders_at spec (e ∷ es) more =
      held_at e.name (pl (held_pieces spec e.name e.object (holders_pieces spec es more)))
      (lines_at spec e.object (holders_pieces spec es more)) (holders_at spec es more)

  read_holder : (name : List ℕ) (slots : List Piece → List Piece) (lines : List SlotLine) (more : List Piece)
      → is_name name ≡ true → many token_code key_codes (reads slot_form) (shown pl (slots (brace_r (codes "\n") ∷ more))) ≡ Ok
      (lines, shown pl (brace_r (codes "\n") ∷ more)) → reads holder_form (shown pl (holder_pieces name slots more)) ≡ Ok
      (record { id = record { name = name; place = pl (holder_pieces name slots more) }; slots = lines }, shown pl more)
  unfolding holder_line
  read_holder name slots lines more n m = rw (any (word_of name), n, m) refl

  one_holder : (name : List ℕ) (slots : List Piece → List Piece) (s : SlotLine) (ss : List SlotLine) (more : List Piece)
      (hs : List Holder) (rest : List Seen) → is_name name ≡ true
      → many token_code key_codes (reads slot_form) (shown pl (slots (brace_r (codes "\n") ∷ more))) ≡ Ok
      (s ∷ ss, shown pl (brace_r (codes "\n") ∷ more))
      → many token_code name_codes (reads holder_form) (shown pl more) ≡ Ok (hs, rest)
      → many token_code name_codes (reads holder_form) (shown pl (holder_pieces name slots more)) ≡ Ok
      (held_at name (pl (holder_pieces name slots more)) (s ∷ ss) hs, rest)
  one_holder name slots s ss more hs rest n m r = one_more name_codes holder_form holder_eats _ _ _ _ _ (any (word_of name))
      (read_holder name slots (s ∷ ss) more n m) r

  read_held_slots : (spec : Spec) (name : List ℕ) (ss : List (ℕ × Cap)) (more : List Piece) (hs : List Holder) (rest : List Seen)
      → is_name name ≡ true → list_all (is_slot spec) ss ≡ true
      → many token_code name_codes (reads holder_form) (shown pl more) ≡ Ok (hs, rest)
      → many token_code name_codes (reads holder_form) (shown pl (held_slots spec name ss more)) ≡ Ok
      (held_at name (pl (held_slots spec name ss more)) (slots_at spec ss (brace_r (codes "\n") ∷ more)) hs, rest)
  read_held_slots spec name [] more hs rest n h r = r
  read_held_slots spec name (s ∷ ss) more hs rest n h r = one_holder name (slots_pieces spec (s ∷ ss)) _ _ more hs rest n
      (read_slots spec (s ∷ ss) (brace_r (codes "\n") ∷ more) h refl refl) r

  abbrev with_slots : Tcb → Option ℕ → Option ℕ → Option Cap → Tcb
  with_slots tcb c v b = record tcb { cspace = c; vspace = v; buffer = b }

  read_held_tcb : (spec : Spec) (name : List ℕ) (tcb : Tcb) (more : List Piece) (hs : List Holder) (rest : List Seen)
      → is_name name ≡ true → has_named spec (Thread tcb) ≡ true
      → many token_code name_codes (reads holder_form) (shown pl more) ≡ Ok (hs, rest)
      → many token_code name_codes (reads holder_form) (shown pl (held_tcb spec name tcb (has_slot tcb) more)) ≡ Ok (
        held_at name (pl (held_tcb spec name tcb (has_slot tcb) more)) (cspace_at spec tcb.cspace tcb.vspace tcb.buffer
            (brace_r (codes "\n") ∷ more)) hs,
        rest,
      )
  read_held_tcb spec name tcb more hs rest n h r =
      let k = and_parts (if_any (is_named spec) tcb.cspace) (if_any (is_named spec) tcb.vspace
      && if_any (is_target spec) tcb.buffer) h in
      let g = and_parts (if_any (is_named spec) tcb.vspace) (if_any (is_target spec) tcb.buffer) k.1 in
      go tcb.cspace tcb.vspace tcb.buffer (read_cspaces spec tcb.cspace tcb.vspace tcb.buffer (brace_r (codes "\n") ∷ more) k.0
      g.0 g.1 refl refl)
    where
      go : (c v : Option ℕ) (b : Option Cap) → many token_code key_codes (reads slot_form)
          (shown pl (tcb_slots spec (with_slots tcb c v b) (brace_r (codes "\n") ∷ more))) ≡ Ok
          (cspace_at spec c v b (brace_r (codes "\n") ∷ more), shown pl (brace_r (codes "\n") ∷ more))
          → many token_code name_codes (reads holder_form)
          (shown pl (held_tcb spec name (with_slots tcb c v b) (has_slot (with_slots tcb c v b)) more)) ≡ Ok (
            held_at name (pl (held_tcb spec name (with_slots tcb c v b) (has_slot (with_slots tcb c v b)) more))
                (cspace_at spec c v b (brace_r (codes "\n") ∷ more)) hs,
            rest,
          )
      go None None None m = r
      go None None (Some b) m = one_holder name (tcb_slots spec (with_slots tcb None None (Some b))) _ _ more hs rest n m r
      go None (Some v) b m = one_holder name (tcb_slots spec (with_slots tcb None (Some v) b)) _ _ more hs rest n m r
      go (Some c) v b m = one_holder name (tcb_slots spec (with_slots tcb (Some c) v b)) _ _ more hs rest n m r

  read_held_irq : (spec : Spec) (name : List ℕ) (o : Option ℕ) (more : List Piece) (hs : List Holder) (rest : List Seen)
      → is_name name ≡ true → if_any (is_named spec) o ≡ true
      → many token_code name_codes (reads holder_form) (shown pl more) ≡ Ok (hs, rest)
      → many token_code name_codes (reads holder_form) (shown pl (held_irq spec name o more)) ≡ Ok
      (held_at name (pl (held_irq spec name o more)) (irq_slot_at spec o (brace_r (codes "\n") ∷ more)) hs, rest)
  read_held_irq spec name None more hs rest n h r = r
  read_held_irq spec name (Some p) more hs rest n h r =
      one_holder name (λ ps. hex 0 [] ∷ colon ∷ word (name_at spec p) (codes "\n") ∷ ps) _ _ more hs rest n
      (one_more key_codes slot_form slot_eats _ _ _ _ _ refl (read_slot pl 0 (name_at spec p) false false (no_rights_at pl) 0
      (brace_r (codes "\n") ∷ more) (word_name (name_at spec p) h) (λ e. absurd cc) refl)
      (many_none token_code key_codes (reads slot_form) (shown pl (brace_r (codes "\n") ∷ more)) refl)) r

  read_held : (spec : Spec) (name : List ℕ) (o : Object) (more : List Piece) (hs : List Holder) (rest : List Seen)
      → is_name name ≡ true → has_named spec o ≡ true
      → many token_code name_codes (reads holder_form) (shown pl more) ≡ Ok (hs, rest)
      → many token_code name_codes (reads holder_form) (shown pl (held_pieces spec name o more)) ≡ Ok
      (held_at name (pl (held_pieces spec name o more)) (lines_at spec o more) hs, rest)
  read_held spec name (CNode bits slots) more hs rest n h r = read_held_slots spec name slots more hs rest n h r
  read_held spec name (Thread tcb) more hs rest n h r = read_held_tcb spec name tcb more hs rest n h r
  read_held spec name (Pages level slots) more hs rest n h r = read_held_slots spec name slots more hs rest n h r
  read_held spec name (Irq o) more hs rest n h r = read_held_irq spec name o more hs rest n h r
  read_held spec name _ more hs rest n h r = r

  read_holders : (spec : Spec) (es : List Entry) (more : List Piece) → are_words es ≡ true
      → list_all (λ e. has_named spec e.object) es ≡ true → starts token_code name_codes (shown pl more) ≡ false
      → many token_code name_codes (reads holder_form) (shown pl (holders_pieces spec es more)) ≡ Ok (
        holders_at spec es more,
        shown pl more,
      )
  read_holders spec [] more w h s = many_none token_code name_codes (reads holder_form) (shown pl more) s
  read_holders spec (e ∷ es) more w h s =
      let a = and_parts (is_word e.name) (are_words es) w in
      let b = and_parts (has_named spec e.object) (list_all (λ e. has_named spec e.object) es) h in
      read_held spec e.name e.object (holders_pieces spec es more) (holders_at spec es more) (shown pl more)
      (word_name e.name a.0) b.0 (read_holders spec es more a.1 b.1 s)

  -- ---- interrupt lines

  abbrev pub irq_at : ℕ → List ℕ → List Piece → IrqLine
  irq_at n name more = record {
    number = at_number pl n (dec n [] ∷ colon ∷ word name (codes "\n") ∷ more);
    object = record { name = name; place = pl (word name (codes "\n") ∷ more) };
  }

  abbrev pub irqs_at : Spec → List (ℕ × ℕ) → List Piece → List IrqLine
  irqs_at spec [] more = []
  irqs_at spec (l ∷ ls) more = irq_at l.0 (name_at spec l.1) (irqs_pieces spec ls more) ∷ irqs_at spec ls more

  read_irq : (n : ℕ) (name : List ℕ) (more : List Piece) → is_name name ≡ true
      → reads irq_form (shown pl (dec n [] ∷ colon ∷ word name (codes "\n") ∷ more)) ≡ Ok (irq_at n name more, shown pl more)
  unfolding irq_line
  read_irq n name more w = rw (any (word_of name), w) refl

  read_irqs : (spec : Spec) (ls : List (ℕ × ℕ)) (more : List Piece) → list_all (is_line spec) ls ≡ true
      → starts token_code (number_code ∷ []) (shown pl more) ≡ false
      → many token_code (number_code ∷ []) (reads irq_form) (shown pl (irqs_pieces spec ls more)) ≡ Ok (
        irqs_at spec ls more,
        shown pl more,
      )
  read_irqs spec [] more h s = many_none token_code (number_code ∷ []) (reads irq_form) (shown pl more) s
  read_irqs spec (l ∷ ls) more h s =
      let k = and_parts (is_line spec l) (list_all (is_line spec) ls) h in
      one_more (number_code ∷ []) irq_form irq_eats _ _ _ _ _ refl (read_irq l.0 (name_at spec l.1) (irqs_pieces spec ls more)
      (word_name (name_at spec l.1) (and_parts (is_number l.0) (is_named spec l.1) k.0).1)) (read_irqs spec ls more k.1 s)

  -- ---- the whole

  abbrev pub tree_at : Spec → SpecTree
  tree_at spec = record {
    arch = spec.arch;
    objects = objects_at pl spec.entries (caps_pieces spec);
    holders = holders_at spec spec.entries (last_pieces spec);
    irqs = irqs_at spec spec.irqs (brace_r (codes "\n") ∷ []);
  }

  read_arch : (arch : Arch) (more : List Piece) → reads arch_form (shown pl (word (arch_word arch) (codes "\n\n") ∷ more)) ≡ Ok
      (arch, shown pl more)
  unfolding arch_line
  read_arch Arm11 more = rw word-arm11 refl
  read_arch Aarch64 more = rw word-aarch64 refl

  read_last : (spec : Spec) → list_all (is_line spec) spec.irqs ≡ true
      → reads maybe_irqs (shown pl (word (codes "irq") (codes " ") ∷ word (codes "maps") (codes " ") ∷ brace_l (codes "\n")
      ∷ irqs_pieces spec spec.irqs (brace_r (codes "\n") ∷ []))) ≡ Ok (irqs_at spec spec.irqs (brace_r (codes "\n") ∷ []), [])
  unfolding maybe_irqs irqs_line
  read_last spec h = rw (word-irq, word-maps, read_irqs spec spec.irqs (brace_r (codes "\n") ∷ []) h refl) refl

  pub read_tree : (spec : Spec) → IsWritable spec → whole (reads spec_line) (shown pl (pieces spec)) ≡ Ok (tree_at spec)
  unfolding spec_line
  read_tree spec w =
      let objects = read_objects pl spec.entries (caps_pieces spec) (all_from (λ e. is_word e.name) (λ e. is_word e.name)
      (λ e. is_name e.name) spec.entries (λ e h g. word_name e.name h) w.names w.names) refl in
      search (rules, word-arch, read_arch, word-objects, word-caps, read_holders, all_named, read_last, lines_named)

  pub tree_spelled : (spec : Spec) → IsWritable spec → IsSpecSpelled (tree_at spec) (shown pl (pieces spec))
  tree_spelled spec w = whole_found token_code left_out_line opens left_out_is spec_line spec_decides 0 (shown pl (pieces spec))
      (tree_at spec) (read_tree spec w)
