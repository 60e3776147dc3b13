-- Reading the holders, the interrupt lines and the whole of a canonical text.
use Rattle.capdl_write.proofs.Common.{Bool, Eats, List, Number, Ok, Param, Piece, Rights, Rule, Seen, SlotKey, SlotLine, Span, [], behind, behind_eats, codes, colon, comma, dec, false, has_rights, hex, is_name, letter, many, many_none, mark_code}
use Rattle.capdl_write.proofs.Common.{param_eats, param_form, paren_r, reads, refl, rights_of, rights_word, rules, slot_form, starts, target_pieces, token_code, true, word, ℕ, ◌||◌, ◌∷◌, ◌≡◌}
use Rattle.capdl_text.specs.declared.token.Mark.TheVariants as marks
use Rattle.capdl_text.specs.declared.token.Word.TheVariants as words
use Rattle.capdl_text.specs.Words.{word_of, field_of}
use Rattle.capdl_text.specs.Forms.{badge_line, param_line, params_line, maybe_params, key_line, slot_line}
use Rattle.capdl_text.specs.declared.tree.Param.TheVariants as params
use Rattle.capdl_text.specs.declared.tree.SlotKey.TheVariants as keys
use Rattle.capdl_write.proofs.ReadBack.{any, one_more, at_number, word-badge, word-cspace, word-vspace, word-buffer}
use Rattle.capdl_write.proofs.Shown.{shown}

-- a word of rights stands for rights, and says them
rights_back : (r : Rights) → has_rights r ≡ true → (word_of (rights_word r) ≡ words.Rights) × (rights_of (rights_word r) ≡ r)
unfolding word_of field_of
rights_back r h = search (rules)

next_param_eats : Eats (reads (behind (mark_code marks.Comma) param_form))
next_param_eats = behind_eats token_code (mark_code marks.Comma ∷ []) (reads param_form) param_eats

module _ (pl : List Piece → Span) where
  abbrev paren_code : List ℕ
  paren_code = mark_code marks.ParenL ∷ []

  abbrev comma_code : List ℕ
  comma_code = mark_code marks.Comma ∷ []

  abbrev next_param : Rule Param
  next_param = behind (mark_code marks.Comma) param_form

  abbrev pub badge_at : ℕ → List Piece → Param
  badge_at badge tail = params.Badge (pl (word (codes "badge") [] ∷ colon ∷ dec badge [] ∷ tail))
      (at_number pl badge (dec badge [] ∷ tail))

  abbrev pub rights_at : Rights → List Piece → Param
  rights_at r tail = params.Rights r (pl (word (rights_word r) [] ∷ tail))

  abbrev pub params_at : Bool → Bool → Rights → ℕ → List Piece → List Param
  params_at false false r badge more = []
  params_at true false r badge more = rights_at r (paren_r (codes "\n") ∷ more) ∷ []
  params_at false true r badge more = badge_at badge (paren_r (codes "\n") ∷ more) ∷ []
  params_at true true r badge more = rights_at r (comma ∷ word (codes "badge") [] ∷ colon ∷ dec badge [] ∷ paren_r (codes "\n")
      ∷ more) ∷ badge_at badge (paren_r (codes "\n") ∷ more) ∷ []

  read_rights : (r : Rights) (tail : List Piece) → has_rights r ≡ true
      → reads param_form (shown pl (word (rights_word r) [] ∷ tail)) ≡ Ok (rights_at r tail, shown pl tail)
  unfolding param_line
  read_rights r tail h = let k = rights_back r h in rw (k.0) (rw (k.1) refl)

  read_badge : (badge : ℕ) (tail : List Piece)
      → reads param_form (shown pl (word (codes "badge") [] ∷ colon ∷ dec badge [] ∷ tail)) ≡ Ok (
        badge_at badge tail,
        shown pl tail,
      )
  unfolding param_line badge_line
  read_badge badge tail = rw word-badge refl

  no_more : (more : List Piece) → many token_code comma_code (reads next_param) (shown pl (paren_r (codes "\n") ∷ more)) ≡ Ok
      ([], shown pl (paren_r (codes "\n") ∷ more))
  no_more more = many_none token_code comma_code (reads next_param) (shown pl (paren_r (codes "\n") ∷ more)) refl

  one_param : (ps : List Piece) (x : Param) (us : List Seen) (xs : List Param) (rest : List Seen)
      → reads param_form (shown pl ps) ≡ Ok (x, us) → many token_code comma_code (reads next_param) us ≡ Ok (xs, rest)
      → many token_code comma_code (reads next_param) (shown pl (comma ∷ ps)) ≡ Ok (x ∷ xs, rest)
  one_param ps x us xs rest e m = one_more comma_code next_param next_param_eats (shown pl (comma ∷ ps)) x us xs rest refl
      (rw e refl) m

  last_param : (badge : ℕ) (more : List Piece)
      → many token_code comma_code (reads next_param) (shown pl (comma ∷ word (codes "badge") [] ∷ colon ∷ dec badge []
      ∷ paren_r (codes "\n") ∷ more)) ≡ Ok (
        badge_at badge (paren_r (codes "\n") ∷ more)
            ∷ [],
        shown pl (paren_r (codes "\n") ∷ more),
      )
  last_param badge more =
      one_param (word (codes "badge") [] ∷ colon ∷ dec badge [] ∷ paren_r (codes "\n") ∷ more)
      (badge_at badge (paren_r (codes "\n") ∷ more)) (shown pl (paren_r (codes "\n") ∷ more)) []
      (shown pl (paren_r (codes "\n") ∷ more)) (read_badge badge (paren_r (codes "\n") ∷ more)) (no_more more)

  -- a slot, by its key's piece
  abbrev pub slot_at : SlotKey → Piece → List ℕ → Bool → Bool → Rights → ℕ → List Piece → SlotLine
  slot_at key p name r b rights badge more = record {
    key = key;
    place = pl (p ∷ colon ∷ target_pieces name r b rights badge more);
    object = record { name = name; place = pl (target_pieces name r b rights badge more) };
    params = params_at r b rights badge more;
  }

  pub read_slot : (n : ℕ) (name : List ℕ) (r b : Bool) (rights : Rights) (badge : ℕ) (more : List Piece) → is_name name ≡ true
      → (r ≡ true → has_rights rights ≡ true) → starts token_code paren_code (shown pl more) ≡ false
      → reads slot_form (shown pl (hex n [] ∷ colon ∷ target_pieces name r b rights badge more)) ≡ Ok
      (slot_at (keys.Number n) (hex n []) name r b rights badge more, shown pl more)
  unfolding slot_line key_line maybe_params params_line
  read_slot n name false false rights badge more w h s = rw (any (word_of name), w, s) refl
  read_slot n name true false rights badge more w h s =
      rw (any (word_of name), w, read_rights rights (paren_r (codes "\n") ∷ more) (h refl), no_more more) refl
  read_slot n name false true rights badge more w h s = search (rules, any, read_badge, no_more)
  read_slot n name true true rights badge more w h s = search (rules, any, read_rights, last_param)

  pub read_buffer : (name : List ℕ) (r b : Bool) (rights : Rights) (badge : ℕ) (more : List Piece) → is_name name ≡ true
      → (r ≡ true → has_rights rights ≡ true) → starts token_code paren_code (shown pl more) ≡ false
      → reads slot_form (shown pl (word (codes "ipc_buffer_slot") [] ∷ colon ∷ target_pieces name r b rights badge more)) ≡ Ok
      (slot_at keys.Buffer (word (codes "ipc_buffer_slot") []) name r b rights badge more, shown pl more)
  unfolding slot_line key_line maybe_params params_line
  read_buffer name false false rights badge more w h s = rw (word-buffer, any (word_of name), w, s) refl
  read_buffer name true false rights badge more w h s =
      rw (word-buffer, any (word_of name), w, read_rights rights (paren_r (codes "\n") ∷ more) (h refl), no_more more) refl
  read_buffer name false true rights badge more w h s =
      rw (word-buffer, any (word_of name), w, read_badge badge (paren_r (codes "\n") ∷ more), no_more more) refl
  read_buffer name true true rights badge more w h s =
      rw (
        word-buffer,
        any (word_of name),
        w,
        read_rights rights (comma ∷ word (codes "badge") [] ∷ colon ∷ dec badge []
            ∷ paren_r (codes "\n") ∷ more) (h refl),
        last_param badge more,
      ) refl

  abbrev pub no_rights_at : Rights
  no_rights_at = record { read = false; write = false; grant = false; reply = false }

  -- a named slot without parameters
  abbrev pub plain_at : SlotKey → List ℕ → List ℕ → List Piece → SlotLine
  plain_at key text name more = slot_at key (word text []) name false false no_rights_at 0 more

  pub read_cspace : (name : List ℕ) (more : List Piece) → is_name name ≡ true
      → starts token_code paren_code (shown pl more) ≡ false
      → reads slot_form (shown pl (word (codes "cspace") [] ∷ colon ∷ word name (codes "\n") ∷ more)) ≡ Ok
      (plain_at keys.Cspace (codes "cspace") name more, shown pl more)
  unfolding slot_line key_line maybe_params
  read_cspace name more w s = rw (word-cspace, any (word_of name), w, s) refl

  pub read_vspace : (name : List ℕ) (more : List Piece) → is_name name ≡ true
      → starts token_code paren_code (shown pl more) ≡ false
      → reads slot_form (shown pl (word (codes "vspace") [] ∷ colon ∷ word name (codes "\n") ∷ more)) ≡ Ok
      (plain_at keys.Vspace (codes "vspace") name more, shown pl more)
  unfolding slot_line key_line maybe_params
  read_vspace name more w s = rw (word-vspace, any (word_of name), w, s) refl
