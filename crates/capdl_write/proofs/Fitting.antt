-- The pieces of a canonical text are tokens without faults, and none runs into the next.
use Rattle.std.proofs.Common.{rules}
use Rattle.capdl_write.proofs.Common.{Bool, Fine, List, None, Option, Piece, Rights, Some, Tcb, [], after_text, all_blank, and_parts, ap, arith, codes, colon, comma, dec, drop, elf_pieces, ends_text, false, goes_on, has_rights, if_any, is_letter}
use Rattle.capdl_write.proofs.Common.{is_name, is_number, is_plain, is_tcb, is_word, is_word_byte, laid, leb, length, letter, list_all, ltb-true, nat_lt, nat_tests, not, paren_r, refl, rights_word, run, suc, tcb_pieces, true, word, word_fault}
use Rattle.capdl_write.proofs.Common.{word_of, word_or, ℕ, ◌&&◌, ◌++◌, ◌<◌, ◌==◌, ◌^◌, ◌||◌, ◌∙◌, ◌∷◌, ◌≡◌}
use Rattle.std.proofs.lemmas.Bool.{not-true}
use Rattle.capdl_text.specs.declared.token.Kind.TheVariants as kinds
use Rattle.capdl_text.specs.TokenFaults.{is_left_out_word, fault_at}
use Rattle.capdl_text.specs.TokenKinds.{mark_of, kind_of}
use Rattle.capdl_write.proofs.Laying.{run_all}
use Rattle.capdl_write.proofs.Numbers.{decimal_fine, hex_fine}

word_long : (b : ℕ) (bs : List ℕ) → leb (length bs) 126 ≡ true → nat_lt 127 (length (b ∷ bs)) ≡ false
word_long b bs h = search (rules, nat_tests)

-- a name that isn't left out is a word without a fault
pub word_fine : (n : List ℕ) → is_word n ≡ true → (kind_of n ≡ Some (kinds.Word (word_of n))) × (fault_at n ≡ None)
unfolding kind_of fault_at
word_fine [] h = absurd cc
word_fine (b ∷ bs) h =
    let k = and_parts (is_name (b ∷ bs)) (not (is_left_out_word (b ∷ bs))) h in
    let g = and_parts (leb (length bs) 126) (is_letter b && list_all is_word_byte bs) k.0 in
    let l = and_parts (is_letter b) (list_all is_word_byte bs) g.1 in
    let all : list_all is_word_byte (b ∷ bs) ≡ true = rw (word_or b l.0, l.1) refl in
    let found : fault_at (b ∷ bs) ≡ word_fault (run is_word_byte (b ∷ bs)) = rw l.0 refl in (
      rw (l.0, l.1) refl,
      found ∙ ap word_fault (run_all (b ∷ bs) all) ∙ rw (word_long b bs g.0, not-true (is_left_out_word (b ∷ bs)) k.1) refl,
    )

-- a word piece in front of fine ones
pub fine_word : (n blanks : List ℕ) (ps : List Piece) → is_word n ≡ true → all_blank blanks ≡ true
    → goes_on (blanks ++ laid ps) ≡ false → Fine ps → Fine (word n blanks ∷ ps)
fine_word n blanks ps h b g f = let k = word_fine n h in (k.0, k.1, b, rw g refl, f)

-- ---- texts

plain_ends : (text : List ℕ) → is_plain text ≡ true → (ends_text (text ++ 34 ∷ []) ≡ true)
    × (after_text (text ++ 34 ∷ []) ≡ Some [])
plain_ends [] h = (refl, refl)
plain_ends (b ∷ text) h =
    let k = and_parts (not (b == 34) && not (b == 10)) (is_plain text) h in
    let g = and_parts (not (b == 34)) (not (b == 10)) k.0 in let r = plain_ends text k.1 in
    let q = not-true (b == 34) g.0 in let l = not-true (b == 10) g.1 in
    (rw (q, l, r.0) refl, rw (q, l, r.1) refl)

pub text_fine : (text : List ℕ) → is_plain text ≡ true → (kind_of (34 ∷ text ++ 34 ∷ []) ≡ Some kinds.Text)
    × (fault_at (34 ∷ text ++ 34 ∷ []) ≡ None)
unfolding kind_of fault_at
text_fine text h = let r = plain_ends text h in (rw (r.0) refl, rw (r.1) refl)

-- ---- lines

-- a word of rights
pub rights_are : (r : Rights) → has_rights r ≡ true → is_word (rights_word r) ≡ true
unfolding is_left_out_word
rights_are r h = search (rules)

fine_elf : (elf : Option (List ℕ)) (more : List Piece) → if_any is_plain elf ≡ true → Fine more → Fine (elf_pieces elf more)
unfolding kind_of fault_at mark_of is_left_out_word
fine_elf None more h f = f
fine_elf (Some elf) more h f = let t = text_fine elf h in
    (refl, refl, refl, refl, (refl, refl, refl, refl, (refl, refl, refl, refl, (t.0, t.1, refl, refl, f))))

pub fine_tcb : (name : List ℕ) (tcb : Tcb) (more : List Piece) → is_word name ≡ true → is_tcb tcb ≡ true → tcb.prio < 2 ^ 64
    → Fine more → Fine (tcb_pieces name tcb more)
unfolding kind_of fault_at mark_of is_left_out_word
fine_tcb name tcb more w h p f =
    let a = and_parts (is_number tcb.addr && is_number tcb.ip) _ h in
    let b = and_parts (is_number tcb.addr) (is_number tcb.ip) a.0 in
    let c = and_parts (is_number tcb.sp) _ a.1 in
    let addr = hex_fine tcb.addr (ltb-true tcb.addr (2 ^ 64) b.0) in
    let ip = hex_fine tcb.ip (ltb-true tcb.ip (2 ^ 64) b.1) in
    let sp = hex_fine tcb.sp (ltb-true tcb.sp (2 ^ 64) c.0) in let prio = decimal_fine tcb.prio p in
    fine_word name (codes " ") (drop 1 (tcb_pieces name tcb more)) w refl refl (
      refl,
      refl,
      refl,
      refl,
      (
        refl,
        refl,
        refl,
        refl,
        (
          refl,
          refl,
          refl,
          refl,
          (
            refl,
            refl,
            refl,
            refl,
            (
              refl,
              refl,
              refl,
              refl,
              (
                addr.0,
                addr.1,
                refl,
                refl,
                (
                  refl,
                  refl,
                  refl,
                  refl,
                  (
                    refl,
                    refl,
                    refl,
                    refl,
                    (
                      refl,
                      refl,
                      refl,
                      refl,
                      (
                        ip.0,
                        ip.1,
                        refl,
                        refl,
                        (
                          refl,
                          refl,
                          refl,
                          refl,
                          (
                            refl,
                            refl,
                            refl,
                            refl,
                            (
                              refl,
                              refl,
                              refl,
                              refl,
                              (
                                sp.0,
                                sp.1,
                                refl,
                                sp_ends tcb.elf,
                                fine_elf tcb.elf _ (and_parts (if_any is_plain tcb.elf) _ c.1).0 (
                                  refl,
                                  refl,
                                  refl,
                                  refl,
                                  (
                                    refl,
                                    refl,
                                    refl,
                                    refl,
                                    (refl, refl, refl, refl, (prio.0, prio.1, refl, refl, (refl, refl, refl, refl, f))),
                                  ),
                                ),
                              ),
                            ),
                          ),
                        ),
                      ),
                    ),
                  ),
                ),
              ),
            ),
          ),
        ),
      ),
    )
  where
    sp_ends : (elf : Option (List ℕ)) → (false
        || not
        (goes_on (laid (elf_pieces elf (comma ∷ word (codes "prio") [] ∷ colon ∷ dec tcb.prio [] ∷ paren_r (codes "\n")
        ∷ more))))) ≡ true
    sp_ends None = refl
    sp_ends (Some elf) = refl
