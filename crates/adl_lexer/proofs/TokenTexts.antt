-- The bytes of tokens.
use Rattle.adl_lexer.proofs.Common.{Each, IsTextOf, IsTokenAt, Keyword, Kind, List, None, Ok, Option, Some, Spells, [], after_angle, after_byte, after_run, after_text, among, angle_bytes, angle_first, ap, append_cancel_right, arith, backslash}
use Rattle.adl_lexer.proofs.Common.{cases_Bool, class_of, digits, eqb-true, false, flat, greater, if_true, inl, inr, is_name, is_word_byte, keyword_of, kind_or_word, le-leb, length, less, letters, line_bytes}
use Rattle.adl_lexer.proofs.Common.{line_feed, list_all, ltb-false, mark, mark_text, minus, nat_lt, number_fault, number_fault_by, number_value, plain_bytes, quote, reads, refl, run, spelled_starts, starts, subst, sym, token_form, true}
use Rattle.adl_lexer.proofs.Common.{rules, true_is_not_false, word_bytes, word_fault, word_kind, ℕ, ◌++◌, ◌==◌, ◌∙◌, ◌∷◌, ◌≡◌, ◌≤◌}
use Rattle.cam_base.specs.declared.code.Code.TheVariants as code
use Rattle.cam_base.specs.declared.token.Kind.TheVariants as kinds
use Rattle.cam_base.specs.declared.token.Mark.{Mark}
use Rattle.cam_base.specs.declared.token.Mark.TheVariants as marks
use Rattle.adl_lexer.proofs.Exactness.{number_exact, number_full}
use Rattle.adl_lexer.specs.LexFaults.{fault_at}
use Rattle.adl_lexer.specs.TokenKinds.{word_line, number_line, text_item, text_line, less_line, arrow_line, mark_line}
use Rattle.adl_lexer.proofs.Classes.{letter_cases, digit_cases, one_of}
use Rattle.adl_lexer.proofs.ClassBytes.{byte_of, letter_of, word_byte_of}
use Rattle.adl_lexer.proofs.KeywordWords.{keyword_is}
use Rattle.adl_lexer.proofs.Readings.{word_read, number_read}
use Rattle.adl_lexer.proofs.Runs.{run_after}
use Rattle.adl_lexer.proofs.Steps.{token_at, one_token_of}

-- ---- words

pub word_start : (bs : List ℕ) → starts class_of letters bs ≡ true → (reads token_form bs ≡ reads word_line bs)
    × (fault_at bs ≡ word_fault (run word_bytes bs))
unfolding fault_at
word_start [] h = absurd cc
word_start (b ∷ bs) h = search (rules, letter_cases)

pub number_start : (bs : List ℕ) → starts class_of digits bs ≡ true → (reads token_form bs ≡ reads number_line bs)
    × (fault_at bs ≡ number_fault (run word_bytes bs) (after_run word_bytes bs))
unfolding fault_at
number_start [] h = absurd cc
number_start (b ∷ bs) h = elim (digit_cases (class_of b) h) [ inl c ↦ (rw c refl, rw c refl) | inr c ↦ (rw c refl, rw c refl) ]

-- two cuts with one rest are one
one_cut : (bs a b rest after : List ℕ) → bs ≡ a ++ rest → b ++ after ≡ bs → rest ≡ after → a ≡ b
one_cut bs a b rest after p q e = append_cancel_right a b after (ap (λ (w : List ℕ). a ++ w) (sym e) ∙ sym p ∙ sym q)

pub some_is_not : {A C : Type 0} (x : A) → Some x ≡ None → C
some_is_not x e = absurd cc

short_word : (word : List ℕ) → word_fault word ≡ None → nat_lt 127 (length word) ≡ false
short_word word e = search (rules, cases_Bool, some_is_not, if_true)

-- bytes one by one are the list of them
each_is : (P : ℕ → Type 0) (xs a : List ℕ) → Each (λ x ts. P x × (ts ≡ x ∷ [])) xs a → a ≡ xs
each_is P [] a e = e
each_is P (x ∷ xs) a e = e.2 ∙ ap (λ (w : List ℕ). w ++ e.1) e.3.1 ∙ ap (λ (w : List ℕ). x ∷ w) (each_is P xs e.1 e.4)

each_word_byte : (xs a : List ℕ) → Each (λ x ts. (among word_bytes (class_of x) ≡ true) × (ts ≡ x ∷ [])) xs a
    → list_all is_word_byte xs ≡ true
each_word_byte [] a e = refl
each_word_byte (x ∷ xs) a e = rw (word_byte_of x e.3.0, each_word_byte xs e.1 e.4) refl

name_of_word : (x : ℕ) (xs : List ℕ) → among letters (class_of x) ≡ true → list_all is_word_byte xs ≡ true
    → word_fault (x ∷ xs) ≡ None → is_name (x ∷ xs) ≡ true
name_of_word x xs h g f = search (rules, ltb-false, short_word, le-leb, letter_of)

word_kind_text : (o : Option Keyword) (text : List ℕ) → keyword_of text ≡ o → is_name text ≡ true → IsTextOf (kind_or_word o) text
word_kind_text None text e n = (n, e)
word_kind_text (Some k) text e n = (keyword_is text k).0 e

quote_is : (b : ℕ) → class_of b ≡ quote → b ≡ 34
quote_is = byte_of 11 34 refl refl refl refl refl refl refl refl refl

less_is : (b : ℕ) → class_of b ≡ less → b ≡ 60
less_is = byte_of 8 60 refl refl refl refl refl refl refl refl refl

minus_is : (b : ℕ) → class_of b ≡ minus → b ≡ 45
minus_is = byte_of 9 45 refl refl refl refl refl refl refl refl refl

greater_is : (b : ℕ) → class_of b ≡ greater → b ≡ 62
greater_is = byte_of 10 62 refl refl refl refl refl refl refl refl refl

-- ---- the ends of texts and angle names

no_plain : (k c : ℕ) → among plain_bytes k ≡ false → among plain_bytes c ≡ true → (c == k) ≡ false
no_plain k c n h = search (rules, cases_Bool, true_is_not_false, eqb-true)

no_line : (c : ℕ) → among line_bytes c ≡ true → (c == line_feed) ≡ false
no_line c h = search (rules, cases_Bool, true_is_not_false, eqb-true)

escaped_step : (b c : ℕ) (bs : List ℕ) → class_of b ≡ backslash → (class_of c == line_feed) ≡ false → after_text bs ≡ Some []
    → after_text (b ∷ c ∷ bs) ≡ Some []
escaped_step b c bs h l m = rw (h, l) m

plain_step : (b c : ℕ) (bs : List ℕ) → (class_of b == quote) ≡ false → (class_of b == line_feed) ≡ false
    → (class_of b == backslash) ≡ false → after_text (c ∷ bs) ≡ Some [] → after_text (b ∷ c ∷ bs) ≡ Some []
plain_step b c bs f g h m = rw (f, g, h) m

plain_front : (y q : ℕ) (rest : List ℕ) → among plain_bytes (class_of y) ≡ true → after_text (rest ++ q ∷ []) ≡ Some []
    → after_text (y ∷ (rest ++ q ∷ [])) ≡ Some []
plain_front y q [] h m = plain_step y q [] (no_plain quote (class_of y) refl h) (no_plain line_feed (class_of y) refl h)
    (no_plain backslash (class_of y) refl h) m
plain_front y q (c ∷ cs) h m = plain_step y c (cs ++ q ∷ []) (no_plain quote (class_of y) refl h)
    (no_plain line_feed (class_of y) refl h) (no_plain backslash (class_of y) refl h) m

-- a text ends with the quote behind its items
text_closed : (xs : List (Unit {0})) (a : List ℕ) (q : ℕ) → class_of q ≡ quote → Each (Spells class_of flat text_item) xs a
    → after_text (a ++ q ∷ []) ≡ Some []
unfolding text_item
text_closed [] a q h e = rw (e, h) refl
text_closed (x ∷ xs) a q h e =
    let more = text_closed xs e.1 q h e.4 in
    search (rules, escaped_step, one_of, no_line, plain_front)

-- an angle name ends with the bracket behind its bytes
angle_closed : (xs a : List ℕ) (g : ℕ) → class_of g ≡ greater
    → Each (λ x ts. (among angle_bytes (class_of x) ≡ true) × (ts ≡ x ∷ [])) xs a
    → after_byte greater (after_run angle_bytes (a ++ g ∷ [])) ≡ Some []
angle_closed [] a g h e = rw (e, h, h) refl
angle_closed (x ∷ xs) a g h e =
    subst (λ (w : List ℕ). after_byte greater (after_run angle_bytes (w ++ g ∷ [])) ≡ Some [])
    (sym (e.2 ∙ ap (λ (w : List ℕ). w ++ e.1) e.3.1))
    (rw e.3.0 (angle_closed xs e.1 g h e.4))

angle_whole : (f : ℕ) (bs : List ℕ) → among angle_first (class_of f) ≡ true
    → after_byte greater (after_run angle_bytes bs) ≡ Some [] → after_angle (f ∷ bs) ≡ Some []
angle_whole f bs h m = rw h m

module _ (bs : List ℕ) (k : Kind) (rest : List ℕ) (t : IsTokenAt bs k rest) where
  -- a token is what is read, with its run of bytes
  as_run : (l : Kind) → reads token_form bs ≡ Ok (l, after_run word_bytes bs) → (k ≡ l) × (t.text ≡ run word_bytes bs)
  as_run l e =
      let same = one_token_of bs k l rest (after_run word_bytes bs) t (token_at bs l (after_run word_bytes bs) e t.clean) in
      (same.0, one_cut bs t.text (run word_bytes bs) rest (after_run word_bytes bs) t.parts (run_after word_bytes bs) same.1)

  word_text : Spells class_of flat word_line k t.text → IsTextOf k t.text
  unfolding word_line
  word_text s =
      let x = s.0 in
      let p = s.2 in
      let text : t.text ≡ x.0 ∷ x.1 = p.2 ∙ ap (λ (w : List ℕ). w ++ p.1) p.3.1 ∙ ap (λ (w : List ℕ). x.0 ∷ w)
      (each_is (λ y. among word_bytes (class_of y) ≡ true) x.1 p.1 p.4) in
      let begins : starts class_of letters bs ≡ true = search (rules) in
      let w = word_start bs begins in
      let all = as_run (word_kind (run word_bytes bs)) (w.0 ∙ word_read bs begins) in
      let fault : word_fault (x.0 ∷ x.1) ≡ None = ap word_fault (sym text ∙ all.1) ∙ sym w.1 ∙ t.clean in
      let named : is_name t.text ≡ true = ap is_name text ∙ name_of_word x.0 x.1 p.3.0 (each_word_byte x.1 p.1 p.4) fault in
      subst (λ (l : Kind). IsTextOf l t.text) (sym (s.1 ∙ ap word_kind (sym text)))
      (word_kind_text (keyword_of t.text) t.text refl named)

  number_begins : Spells class_of flat number_line k t.text → starts class_of digits bs ≡ true
  unfolding number_line
  number_begins s = search (rules, true_is_not_false, number_exact, number_full, spelled_starts)

  number_text : starts class_of digits bs ≡ true → IsTextOf k t.text
  number_text begins = go (number_value (run word_bytes bs)) refl
    where
      go : (o : Option ℕ) → number_value (run word_bytes bs) ≡ o → IsTextOf k t.text
      go None e =
          let w = number_start bs begins in
          some_is_not (code.Number, run word_bytes bs)
          (sym (ap (λ o. number_fault_by o (run word_bytes bs) (after_run word_bytes bs)) e) ∙ sym w.1 ∙ t.clean)
      go (Some n) e =
          let w = number_start bs begins in
          let all = as_run (kinds.Number n) (w.0 ∙ number_read bs n begins e) in
          subst (λ (l : Kind). IsTextOf l t.text) (sym all.0) (ap number_value all.1 ∙ e)

  text_text : Spells class_of flat text_line k t.text → IsTextOf k t.text
  unfolding text_line
  text_text s =
      let x = s.0 in
      let p = s.2 in
      let q = p.4 in
      let opened : x.0 ≡ 34 = quote_is x.0 (one_of (class_of x.0) quote p.3.0) in
      let text : t.text ≡ x.0 ∷ q.0 ++ x.1.1 ∷ [] = search (rules) in
      subst (λ (l : Kind). IsTextOf l t.text) (sym s.1) (
        q.0 ++ x.1.1 ∷ [],
        text ∙ ap (λ (z : ℕ). z ∷ q.0 ++ x.1.1 ∷ []) opened,
        text_closed x.1.0 q.0 x.1.1
            (one_of (class_of x.1.1) quote q.4.0) q.3,
      )

  arrow_text : Spells class_of flat arrow_line k t.text → IsTextOf k t.text
  unfolding arrow_line
  arrow_text s = search (rules, minus_is, one_of, greater_is)

  less_text : Spells class_of flat less_line k t.text → IsTextOf k t.text
  unfolding less_line
  less_text s =
      let x = s.0 in
      let p = s.2 in
      let opened : x.0 ≡ 60 = less_is x.0 (one_of (class_of x.0) less p.3.0) in
      let text : t.text ≡ 60 ∷ p.1 = p.2 ∙ ap (λ (w : List ℕ). w ++ p.1) p.3.1 ∙ ap (λ (z : ℕ). z ∷ p.1) opened in
      elim p.4 [
        | inl b ↦ search (rules, minus_is, one_of)
        | inr a ↦
            let q = a.2 in
            let r = q.4 in
            let body : List ℕ = r.0 ++ a.0.1.1 ∷ [] in
            let rest_is : p.1 ≡ a.0.0 ∷ body = search (rules) in
            subst (λ (l : Kind). IsTextOf l t.text) (sym (s.1 ∙ a.1)) (
              a.0.0 ∷ body,
              text ∙ ap (λ (w : List ℕ). 60 ∷ w) rest_is,
              angle_whole a.0.0 body q.3.0
                  (angle_closed a.0.1.0 r.0 a.0.1.1 (one_of (class_of a.0.1.1) greater r.4.0) r.3),
            )
      ]

  one_mark : (m : Mark) (c v : ℕ) → ((b : ℕ) → class_of b ≡ c → b ≡ v) → mark_text m ≡ v ∷ []
      → Spells class_of flat (mark c m) k t.text → IsTextOf k t.text
  one_mark m c v is e s = search (rules, one_of)

  mark_line_text : Spells class_of flat mark_line k t.text → IsTextOf k t.text
  unfolding mark_line
  mark_line_text (inl s) = one_mark marks.Dot 13 46 (byte_of 13 46 refl refl refl refl refl refl refl refl refl) refl s
  mark_line_text (inr (inl s)) = one_mark marks.BraceL 14 123 (byte_of 14 123 refl refl refl refl refl refl refl refl refl) refl s
  mark_line_text (inr (inr (inl s))) =
      one_mark marks.BraceR 15 125 (byte_of 15 125 refl refl refl refl refl refl refl refl refl) refl s
  mark_line_text (inr (inr (inr (inl s)))) =
      one_mark marks.ParenL 16 40 (byte_of 16 40 refl refl refl refl refl refl refl refl refl) refl s
  mark_line_text (inr (inr (inr (inr (inl s))))) =
      one_mark marks.ParenR 17 41 (byte_of 17 41 refl refl refl refl refl refl refl refl refl) refl s
  mark_line_text (inr (inr (inr (inr (inr (inl s)))))) =
      one_mark marks.SquareL 18 91 (byte_of 18 91 refl refl refl refl refl refl refl refl refl) refl s
  mark_line_text (inr (inr (inr (inr (inr (inr (inl s))))))) =
      one_mark marks.SquareR 19 93 (byte_of 19 93 refl refl refl refl refl refl refl refl refl) refl s
  mark_line_text (inr (inr (inr (inr (inr (inr (inr (inl s)))))))) =
      one_mark marks.Semi 20 59 (byte_of 20 59 refl refl refl refl refl refl refl refl refl) refl s
  mark_line_text (inr (inr (inr (inr (inr (inr (inr (inr (inl s))))))))) =
      one_mark marks.Comma 21 44 (byte_of 21 44 refl refl refl refl refl refl refl refl refl) refl s
  mark_line_text (inr (inr (inr (inr (inr (inr (inr (inr (inr (inl s)))))))))) =
      one_mark marks.Equals 22 61 (byte_of 22 61 refl refl refl refl refl refl refl refl refl) refl s
  mark_line_text (inr (inr (inr (inr (inr (inr (inr (inr (inr (inr s)))))))))) =
      one_mark marks.Colon 23 58 (byte_of 23 58 refl refl refl refl refl refl refl refl refl) refl s

  -- a token's bytes are those of its kind
  pub text_of_kind : IsTextOf k t.text
  text_of_kind = search (rules, word_text, number_text, number_begins, text_text, less_text, arrow_text, mark_line_text)
