-- The pieces of a canonical text are fine, line by line.
use Rattle.capdl_write.proofs.Common.{Aarch64, Arch, Arm11, Bool, CNode, Cap, Directory, Endpoint, Entry, Fill, Fine, Frame, Global, Irq, IsWritable, List, None, Notification, Object, Option, Pages, Piece, Rights, Some, Spec, Table, Tcb, Thread}
use Rattle.capdl_write.proofs.Common.{Upper, [], all_blank, and_parts, arch_word, arith, brace_l, brace_r, buffer_pieces, cap_pieces, caps_pieces, codes, colon, drop, false, fill_pieces, goes_on, has_rights, has_slot, held_irq, held_pieces}
use Rattle.capdl_write.proofs.Common.{held_slots, held_tcb, hex, holder_pieces, holders_pieces, if_any, irqs_pieces, is_fill, is_laid, is_number, is_plain, is_word, keeps, keeps_fill, laid, last_pieces, leb, list_all, ltb-true, name_at, named_pieces}
use Rattle.capdl_write.proofs.Common.{nat_lt, nat_tests, not, object_pieces, objects_pieces, paddr_pieces, paren_r, pieces, refl, rights_word, rules, slots_pieces, target_pieces, tcb_slots, true, word, ℕ, ◌%◌, ◌&&◌, ◌<◌, ◌==◌, ◌^◌, ◌||◌, ◌∷◌, ◌≡◌}
use Rattle.std.specs.Prelude.{◌+◌}
use Rattle.capdl_text.specs.TokenFaults.{is_left_out_word, fault_at}
use Rattle.capdl_text.specs.TokenKinds.{mark_of, kind_of}
use Rattle.capdl_write.proofs.Fitting.{fine_word, fine_tcb, rights_are, text_fine}
use Rattle.capdl_write.proofs.Named.{are_words, is_named, is_target, is_slot, has_named, is_line, all_named, lines_named}
use Rattle.capdl_write.proofs.Numbers.{decimal_fine, hex_fine}

-- ---- objects

fine_paddr : (paddr : Option ℕ) (more : List Piece) → if_any is_number paddr ≡ true → goes_on (laid more) ≡ false → Fine more
    → Fine (paddr_pieces paddr more)
unfolding kind_of fault_at mark_of is_left_out_word
fine_paddr None more h g f = f
fine_paddr (Some p) more h g f =
    let x = hex_fine p (ltb-true p (2 ^ 64) h) in
    (refl, refl, refl, refl, (refl, refl, refl, refl, (refl, refl, refl, refl, (x.0, x.1, refl, rw g refl, f))))

small : (a b : ℕ) → (nat_lt 0 b && leb (a + b) 4096) ≡ true → (a < 2 ^ 64) × (b < 2 ^ 64)
small a b h = (grind (arith, nat_tests), grind (arith, nat_tests))

fine_fill : (fill : Option Fill) (more : List Piece) → if_any keeps_fill fill ≡ true → if_any is_fill fill ≡ true → Fine more
    → Fine (fill_pieces fill more)
unfolding kind_of fault_at mark_of is_left_out_word
fine_fill None more k h f = f
fine_fill (Some fill) more k h f =
    let s = small fill.offset fill.length k in
    let l = and_parts (is_plain fill.file) (is_number fill.at) h in
    let offset = decimal_fine fill.offset s.0 in let length = decimal_fine fill.length s.1 in
    let file = text_fine fill.file l.0 in
    let at = hex_fine fill.at (ltb-true fill.at (2 ^ 64) l.1) in (
      refl,
      refl,
      refl,
      refl,
      (
        refl,
        refl,
        refl,
        refl,
        (
          refl,
          refl,
          refl,
          refl,
          (
            refl,
            refl,
            refl,
            refl,
            (
              refl,
              refl,
              refl,
              refl,
              (
                offset.0,
                offset.1,
                refl,
                refl,
                (
                  length.0,
                  length.1,
                  refl,
                  refl,
                  (
                    refl,
                    refl,
                    refl,
                    refl,
                    (file.0, file.1, refl, refl, (at.0, at.1, refl, refl, (refl, refl, refl, refl, (refl, refl, refl, refl, f)))),
                  ),
                ),
              ),
            ),
          ),
        ),
      ),
    )

fine_frame : (name : List ℕ) (paddr : Option ℕ) (fill : Option Fill) (more : List Piece) → is_word name ≡ true
    → if_any keeps_fill fill ≡ true → if_any is_number paddr ≡ true → if_any is_fill fill ≡ true → Fine more
    → Fine (object_pieces name (Frame paddr fill) more)
unfolding kind_of fault_at mark_of is_left_out_word
fine_frame name paddr fill more w k p l f =
    fine_word name (codes " ") (drop 1 (object_pieces name (Frame paddr fill) more)) w refl refl (
      refl,
      refl,
      refl,
      refl,
      (
        refl,
        refl,
        refl,
        refl,
        (
          refl,
          refl,
          refl,
          refl,
          (
            refl,
            refl,
            refl,
            ends paddr fill,
            fine_paddr paddr (fill_pieces fill (paren_r (codes "\n") ∷ more)) p (fill_ends fill)
                (fine_fill fill (paren_r (codes "\n") ∷ more) k l (refl, refl, refl, refl, f)),
          ),
        ),
      ),
    )
  where
    fill_ends : (fill : Option Fill) → goes_on (laid (fill_pieces fill (paren_r (codes "\n") ∷ more))) ≡ false
    fill_ends None = refl
    fill_ends (Some fill) = refl

    ends : (paddr : Option ℕ) (fill : Option Fill)
        → (false || not (goes_on (laid (paddr_pieces paddr (fill_pieces fill (paren_r (codes "\n") ∷ more)))))) ≡ true
    ends None None = refl
    ends None (Some fill) = refl
    ends (Some p) fill = refl

bits_small : (n : ℕ) → (nat_lt 0 n && leb n 16) ≡ true → n < 2 ^ 64
bits_small n h = grind (arith, nat_tests)

prio_small : (n : ℕ) → leb n 255 ≡ true → n < 2 ^ 64
prio_small n h = grind (arith, nat_tests)

fine_object : (spec : Spec) (name : List ℕ) (o : Object) (more : List Piece) → is_word name ≡ true → keeps spec o ≡ true
    → is_laid o ≡ true → Fine more → Fine (object_pieces name o more)
unfolding kind_of fault_at mark_of is_left_out_word
fine_object spec name Endpoint more w k l f = fine_word name (codes " ") (drop 1 (object_pieces name Endpoint more)) w refl refl
    (refl, refl, refl, refl, (refl, refl, refl, refl, f))
fine_object spec name Notification more w k l f = fine_word name (codes " ") (drop 1 (object_pieces name Notification more)) w
    refl refl (refl, refl, refl, refl, (refl, refl, refl, refl, f))
fine_object spec name (CNode bits slots) more w k l f =
    let b = decimal_fine bits (bits_small bits (and_parts (nat_lt 0 bits && leb bits 16) _ k).0) in
    fine_word name (codes " ") (drop 1 (object_pieces name (CNode bits slots) more)) w refl refl (
      refl,
      refl,
      refl,
      refl,
      (
        refl,
        refl,
        refl,
        refl,
        (refl, refl, refl, refl, (b.0, b.1, refl, refl, (refl, refl, refl, refl, (refl, refl, refl, refl, f)))),
      ),
    )
fine_object spec name (Thread tcb) more w k l f =
    fine_tcb name tcb more w l (prio_small tcb.prio (and_parts (leb tcb.prio 255) _ (and_parts (leb tcb.prio 255 && _) _ k).0).0)
    f
fine_object spec name (Frame paddr fill) more w k l f =
    let b = and_parts (if_any is_number paddr) (if_any is_fill fill) l in
    fine_frame name paddr fill more w (and_parts (if_any (λ p. p % 4096 == 0) paddr) (if_any keeps_fill fill) k).1 b.0 b.1 f
fine_object spec name (Pages Global slots) more w k l f = search (rules, fine_word)
fine_object spec name (Pages Upper slots) more w k l f = search (rules, fine_word)
fine_object spec name (Pages Directory slots) more w k l f = search (rules, fine_word)
fine_object spec name (Pages Table slots) more w k l f = search (rules, fine_word)
fine_object spec name (Irq n) more w k l f = fine_word name (codes " ") (drop 1 (object_pieces name (Irq n) more)) w refl refl
    (refl, refl, refl, refl, (refl, refl, refl, refl, f))

fine_objects : (spec : Spec) (es : List Entry) (more : List Piece) → are_words es ≡ true
    → list_all (λ e. keeps spec e.object) es ≡ true → list_all (λ e. is_laid e.object) es ≡ true → Fine more
    → Fine (objects_pieces es more)
fine_objects spec [] more w k l f = f
fine_objects spec (e ∷ es) more w k l f =
    let a = and_parts (is_word e.name) (are_words es) w in
    let b = and_parts (keeps spec e.object) (list_all (λ e. keeps spec e.object) es) k in
    let c = and_parts (is_laid e.object) (list_all (λ e. is_laid e.object) es) l in
    fine_object spec e.name e.object (objects_pieces es more) a.0 b.0 c.0 (fine_objects spec es more a.1 b.1 c.1 f)

-- ---- holders

fine_target : (name : List ℕ) (r b : Bool) (rights : Rights) (badge : ℕ) (more : List Piece) → is_word name ≡ true
    → (r ≡ true → has_rights rights ≡ true) → badge < 2 ^ 64 → Fine more → Fine (target_pieces name r b rights badge more)
unfolding kind_of fault_at mark_of is_left_out_word
fine_target name false false rights badge more w h l f = fine_word name (codes "\n") more w refl refl f
fine_target name true false rights badge more w h l f =
    fine_word name (codes " ") (drop 1 (target_pieces name true false rights badge more)) w refl refl (
      refl,
      refl,
      refl,
      refl,
      fine_word (rights_word rights) [] (paren_r (codes "\n") ∷ more) (rights_are rights (h refl)) refl refl
          (refl, refl, refl, refl, f),
    )
fine_target name false true rights badge more w h l f =
    let n = decimal_fine badge l in
    fine_word name (codes " ") (drop 1 (target_pieces name false true rights badge more)) w refl refl (
      refl,
      refl,
      refl,
      refl,
      (refl, refl, refl, refl, (refl, refl, refl, refl, (n.0, n.1, refl, refl, (refl, refl, refl, refl, f)))),
    )
fine_target name true true rights badge more w h l f =
    let n = decimal_fine badge l in
    fine_word name (codes " ") (drop 1 (target_pieces name true true rights badge more)) w refl refl (
      refl,
      refl,
      refl,
      refl,
      fine_word (rights_word rights) [] (drop 3 (target_pieces name true true rights badge more)) (rights_are rights (h refl))
          refl refl (
            refl,
            refl,
            refl,
            refl,
            (refl, refl, refl, refl, (refl, refl, refl, refl, (n.0, n.1, refl, refl, (refl, refl, refl, refl, f)))),
          ),
    )

fine_cap : (spec : Spec) (cap : Cap) (more : List Piece) → is_target spec cap ≡ true → Fine more → Fine (cap_pieces spec cap more)
fine_cap spec cap more h f = search (rules, and_parts, is_named, fine_target, ltb-true)

fine_slots : (spec : Spec) (ss : List (ℕ × Cap)) (more : List Piece) → list_all (is_slot spec) ss ≡ true → Fine more
    → Fine (slots_pieces spec ss more)
unfolding kind_of fault_at mark_of
fine_slots spec [] more h f = f
fine_slots spec (s ∷ ss) more h f =
    let k = and_parts (is_slot spec s) (list_all (is_slot spec) ss) h in
    let g = and_parts (is_number s.0) (is_target spec s.1) k.0 in
    let n = hex_fine s.0 (ltb-true s.0 (2 ^ 64) g.0) in (
      n.0,
      n.1,
      refl,
      refl,
      (refl, refl, refl, refl, fine_cap spec s.1 (slots_pieces spec ss more) g.1 (fine_slots spec ss more k.1 f)),
    )

-- the end of a holder
fine_end : (blanks : List ℕ) (more : List Piece) → all_blank blanks ≡ true → Fine more → Fine (brace_r blanks ∷ more)
unfolding kind_of fault_at mark_of
fine_end blanks more b f = (refl, refl, b, refl, f)

fine_holder : (name : List ℕ) (slots : List Piece → List Piece) (more : List Piece) → is_word name ≡ true
    → Fine (slots (brace_r (codes "\n") ∷ more)) → Fine (holder_pieces name slots more)
unfolding kind_of fault_at mark_of
fine_holder name slots more w f = fine_word name (codes " ") (drop 1 (holder_pieces name slots more)) w refl refl
    (refl, refl, refl, refl, f)

fine_cspace : (spec : Spec) (o : Option ℕ) (more : List Piece) → if_any (is_named spec) o ≡ true → Fine more
    → Fine (named_pieces spec (codes "cspace") o more)
unfolding kind_of fault_at mark_of is_left_out_word
fine_cspace spec None more h f = f
fine_cspace spec (Some p) more h f =
    (refl, refl, refl, refl, (refl, refl, refl, refl, fine_word (name_at spec p) (codes "\n") more h refl refl f))

fine_vspace : (spec : Spec) (o : Option ℕ) (more : List Piece) → if_any (is_named spec) o ≡ true → Fine more
    → Fine (named_pieces spec (codes "vspace") o more)
unfolding kind_of fault_at mark_of is_left_out_word
fine_vspace spec None more h f = f
fine_vspace spec (Some p) more h f =
    (refl, refl, refl, refl, (refl, refl, refl, refl, fine_word (name_at spec p) (codes "\n") more h refl refl f))

fine_buffer : (spec : Spec) (o : Option Cap) (more : List Piece) → if_any (is_target spec) o ≡ true → Fine more
    → Fine (buffer_pieces spec o more)
unfolding kind_of fault_at mark_of is_left_out_word
fine_buffer spec None more h f = f
fine_buffer spec (Some cap) more h f = (refl, refl, refl, refl, (refl, refl, refl, refl, fine_cap spec cap more h f))

fine_held_slots : (spec : Spec) (name : List ℕ) (ss : List (ℕ × Cap)) (more : List Piece) → is_word name ≡ true
    → list_all (is_slot spec) ss ≡ true → Fine more → Fine (held_slots spec name ss more)
fine_held_slots spec name [] more w h f = f
fine_held_slots spec name (s ∷ ss) more w h f = fine_holder name (slots_pieces spec (s ∷ ss)) more w
    (fine_slots spec (s ∷ ss) (brace_r (codes "\n") ∷ more) h (fine_end (codes "\n") more refl f))

fine_held_tcb : (spec : Spec) (name : List ℕ) (tcb : Tcb) (b : Bool) (more : List Piece) → is_word name ≡ true
    → has_named spec (Thread tcb) ≡ true → Fine more → Fine (held_tcb spec name tcb b more)
fine_held_tcb spec name tcb false more w h f = f
fine_held_tcb spec name tcb true more w h f =
    let k = and_parts (if_any (is_named spec) tcb.cspace) (if_any (is_named spec) tcb.vspace
    && if_any (is_target spec) tcb.buffer) h in
    let g = and_parts (if_any (is_named spec) tcb.vspace) (if_any (is_target spec) tcb.buffer) k.1 in
    search (rules, fine_holder, fine_cspace, fine_vspace, fine_buffer, fine_end)

fine_held_irq : (spec : Spec) (name : List ℕ) (o : Option ℕ) (more : List Piece) → is_word name ≡ true
    → if_any (is_named spec) o ≡ true → Fine more → Fine (held_irq spec name o more)
unfolding kind_of fault_at mark_of
fine_held_irq spec name None more w h f = f
fine_held_irq spec name (Some p) more w h f =
    let n = hex_fine 0 (omega arith) in
    fine_holder name (λ ps. hex 0 [] ∷ colon ∷ word (name_at spec p) (codes "\n") ∷ ps) more w (
      n.0,
      n.1,
      refl,
      refl,
      (
        refl,
        refl,
        refl,
        refl,
        fine_word (name_at spec p) (codes "\n") (brace_r (codes "\n") ∷ more) h refl
            refl (fine_end (codes "\n") more refl f),
      ),
    )

fine_held : (spec : Spec) (name : List ℕ) (o : Object) (more : List Piece) → is_word name ≡ true → has_named spec o ≡ true
    → Fine more → Fine (held_pieces spec name o more)
fine_held spec name (CNode bits slots) more w h f = fine_held_slots spec name slots more w h f
fine_held spec name (Thread tcb) more w h f = fine_held_tcb spec name tcb (has_slot tcb) more w h f
fine_held spec name (Pages level slots) more w h f = fine_held_slots spec name slots more w h f
fine_held spec name (Irq o) more w h f = fine_held_irq spec name o more w h f
fine_held spec name _ more w h f = f

fine_holders : (spec : Spec) (es : List Entry) (more : List Piece) → are_words es ≡ true
    → list_all (λ e. has_named spec e.object) es ≡ true → Fine more → Fine (holders_pieces spec es more)
fine_holders spec [] more w h f = f
fine_holders spec (e ∷ es) more w h f =
    let a = and_parts (is_word e.name) (are_words es) w in
    let b = and_parts (has_named spec e.object) (list_all (λ e. has_named spec e.object) es) h in
    fine_held spec e.name e.object (holders_pieces spec es more) a.0 b.0 (fine_holders spec es more a.1 b.1 f)

-- ---- interrupt lines, and the whole

fine_irqs : (spec : Spec) (ls : List (ℕ × ℕ)) (more : List Piece) → list_all (is_line spec) ls ≡ true → Fine more
    → Fine (irqs_pieces spec ls more)
unfolding kind_of fault_at mark_of
fine_irqs spec [] more h f = f
fine_irqs spec (l ∷ ls) more h f =
    let k = and_parts (is_line spec l) (list_all (is_line spec) ls) h in
    let g = and_parts (is_number l.0) (is_named spec l.1) k.0 in
    let n = decimal_fine l.0 (ltb-true l.0 (2 ^ 64) g.0) in (
      n.0,
      n.1,
      refl,
      refl,
      (
        refl,
        refl,
        refl,
        refl,
        fine_word (name_at spec l.1) (codes "\n") (irqs_pieces spec ls more) g.1 refl
            refl (fine_irqs spec ls more k.1 f),
      ),
    )

fine_arch : (arch : Arch) (more : List Piece) → Fine more → Fine (word (arch_word arch) (codes "\n\n") ∷ more)
unfolding kind_of fault_at is_left_out_word
fine_arch Arm11 more f = (refl, refl, refl, refl, f)
fine_arch Aarch64 more f = (refl, refl, refl, refl, f)

fine_last : (spec : Spec) → list_all (is_line spec) spec.irqs ≡ true → Fine (last_pieces spec)
unfolding kind_of fault_at mark_of is_left_out_word
fine_last spec h = search (rules, fine_irqs, fine_end)

fine_caps : (spec : Spec) → are_words spec.entries ≡ true → list_all (λ e. has_named spec e.object) spec.entries ≡ true
    → Fine (last_pieces spec) → Fine (caps_pieces spec)
unfolding kind_of fault_at mark_of is_left_out_word
fine_caps spec w h f = search (rules, fine_holders)

fine_front : (spec : Spec) (more : List Piece) → Fine more
    → Fine (word (codes "arch") (codes " ") ∷ word (arch_word spec.arch) (codes "\n\n") ∷ word (codes "objects") (codes " ")
    ∷ brace_l (codes "\n") ∷ more)
unfolding kind_of fault_at mark_of is_left_out_word
fine_front spec more f = search (rules, fine_arch)

-- the pieces of a writable spec's canonical text are fine
pub fine_pieces : (spec : Spec) → IsWritable spec → Fine (pieces spec)
fine_pieces spec w =
    fine_front spec (objects_pieces spec.entries (caps_pieces spec)) (fine_objects spec spec.entries (caps_pieces spec) w.names
    w.kept.objects w.objects (fine_caps spec w.names (all_named spec w) (fine_last spec (lines_named spec w))))
