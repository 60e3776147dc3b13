-- What reading a token gives, by its kind.
use Rattle.adl_lexer.proofs.Common.{Bool, Exact, List, None, Ok, Reader, Some, [], after_angle, after_byte, after_run, after_text, among, among-left, among-right, and_more, and_parts, angle_bytes, angle_first, ap, arith, backslash, can_be_empty}
use Rattle.adl_lexer.proofs.Common.{cases_Bool, class_of, consumes, cross, digits, eqb-true, false, fits, flat, greater, hex_digits, if_false, if_true, inl, inr, is_digit, is_hex_digit, is_hexadecimal, kind_of_value, less}
use Rattle.adl_lexer.proofs.Common.{letters, line_bytes, line_feed, list_all, many, many_more, many_none, minus, no_nil, none_is_not, number_value, plain_bytes, quote, reads, refl, run, same_Some, starts, subst, sym, too_deep, true, word_bytes}
use Rattle.adl_lexer.proofs.Common.{rules, word_kind, ℕ, ◌&&◌, ◌==◌, ◌>>=◌, ◌||◌, ◌∙◌, ◌∷◌, ◌≡◌}
use Rattle.cam_base.specs.declared.token.Kind.TheVariants as kinds
use Rattle.cam_base.specs.declared.token.Mark.TheVariants as marks
use Rattle.adl_lexer.specs.TokenKinds.{number_kind, word_line, hex_line, number_line, text_item, text_line, less_line, arrow_line}
use Rattle.cam_base.proofs.GrammarFronts.{head_is, tail_is}
use Rattle.cam_base.proofs.Values.{fits_true}
use Rattle.std.specs.Str.Parse.{digits_value}
use Rattle.adl_lexer.proofs.Classes.{digit_class, hex_class, zero_class, not_zero_class, cross_class, digit_cases, within, not_within}
use Rattle.adl_lexer.proofs.Exactness.{read_exact}
use Rattle.adl_lexer.proofs.Runs.{run_is, line_goes_on}

letter_is_word : (c : ℕ) → among letters c ≡ true → among word_bytes c ≡ true
letter_is_word c h = among-left letters digits c h

-- a word is read whole
pub word_read : (bs : List ℕ) → starts class_of letters bs ≡ true
    → reads word_line bs ≡ Ok (word_kind (run word_bytes bs), after_run word_bytes bs)
unfolding word_line
word_read [] h = absurd cc
word_read (b ∷ bs) h = rw (h, letter_is_word (class_of b) h, run_is word_bytes bs) refl

-- ---- angle names and marks of two bytes

-- one byte of a class comes next
one_byte : (c : ℕ) (bs rest : List ℕ) → after_byte c bs ≡ Some rest → (b : ℕ) × (bs ≡ b ∷ rest) × (class_of b ≡ c)
one_byte c [] rest e = none_is_not rest e
one_byte c (b ∷ bs) rest e = search (rules, cases_Bool, same_Some, if_true, eqb-true, none_is_not, if_false)

pub not_one_byte : (c : ℕ) (bs : List ℕ) → after_byte c bs ≡ None → starts class_of (c ∷ []) bs ≡ false
not_one_byte c [] e = refl
not_one_byte c (b ∷ bs) e = search (rules, cases_Bool, none_is_not, if_true)

-- an angle name is read whole
pub angle_read : (b : ℕ) (bs rest : List ℕ) → class_of b ≡ less → after_byte minus bs ≡ None → after_angle bs ≡ Some rest
    → reads less_line (b ∷ bs) ≡ Ok (kinds.Angle, rest)
unfolding less_line
angle_read b [] rest h g e = none_is_not rest e
angle_read b (c ∷ bs) rest h g e = elim (cases_Bool (among angle_first (class_of c))) [
  | inl f ↦
      let end = one_byte greater (after_run angle_bytes bs) rest
      (sym (if_true (among angle_first (class_of c)) (after_byte greater (after_run angle_bytes bs)) None f) ∙ e) in
      rw (h, not_one_byte minus (c ∷ bs) g, f, run_is angle_bytes bs, end.1, end.2) refl
  | inr f ↦ search (rules, none_is_not, if_false)
]

pub back_read : (b : ℕ) (bs rest : List ℕ) → class_of b ≡ less → after_byte minus bs ≡ Some rest
    → reads less_line (b ∷ bs) ≡ Ok (kinds.Mark marks.Back, rest)
unfolding less_line
back_read b bs rest h e = let s = one_byte minus bs rest e in rw (h, s.1, s.2) refl

pub arrow_read : (b : ℕ) (bs rest : List ℕ) → class_of b ≡ minus → after_byte greater bs ≡ Some rest
    → reads arrow_line (b ∷ bs) ≡ Ok (kinds.Mark marks.Arrow, rest)
unfolding arrow_line
arrow_read b bs rest h e = let s = one_byte greater bs rest e in rw (h, s.1, s.2) refl

-- ---- texts

pub item_exact : Exact class_of flat [] too_deep text_item
unfolding text_item
item_exact = read_exact text_item refl

item_full : can_be_empty text_item ≡ false
unfolding text_item
item_full = refl

abbrev items : Reader ℕ (List (Unit {0}))
items = many class_of (backslash ∷ plain_bytes) (reads text_item)

item_step : (bs after : List ℕ) → starts class_of (backslash ∷ plain_bytes) bs ≡ true → reads text_item bs ≡ Ok (tt, after)
    → (xs : List (Unit {0})) (rest : List ℕ) → items after ≡ Ok (xs, rest) → items bs ≡ Ok (tt ∷ xs, rest)
item_step bs after h e xs rest f =
    many_more class_of (backslash ∷ plain_bytes) (reads text_item) (λ ts x k. consumes item_exact ts x item_full k) bs h
    ∙ ap (and_more items) e ∙ ap (λ v. v >>= λ ys. Ok (tt ∷ ys.0, ys.1)) f

plain_item : (b : ℕ) (bs : List ℕ) → (class_of b == backslash) ≡ false → among plain_bytes (class_of b) ≡ true
    → reads text_item (b ∷ bs) ≡ Ok (tt, bs)
unfolding text_item
plain_item b bs h g = rw (h, g) refl

escaped_item : (b c : ℕ) (bs : List ℕ) → class_of b ≡ backslash → among line_bytes (class_of c) ≡ true
    → reads text_item (b ∷ c ∷ bs) ≡ Ok (tt, bs)
unfolding text_item
escaped_item b c bs h g = rw (h, g) refl

no_item : (b : ℕ) (bs : List ℕ) → class_of b ≡ quote → items (b ∷ bs) ≡ Ok ([], b ∷ bs)
no_item b bs h = many_none class_of (backslash ∷ plain_bytes) (reads text_item) (b ∷ bs) (rw h refl)

is_plain : (b : ℕ) → (class_of b == quote) ≡ false → (class_of b == line_feed) ≡ false → (class_of b == backslash) ≡ false
    → among plain_bytes (class_of b) ≡ true
is_plain b h g f = search (rules, if_false, line_goes_on)

abbrev IsBody : List ℕ → List ℕ → Type 0
IsBody bs rest = (xs : List (Unit {0})) × (q : ℕ) × (items bs ≡ Ok (xs, q ∷ rest)) × (class_of q ≡ quote)

body_step : (bs after rest : List ℕ) → starts class_of (backslash ∷ plain_bytes) bs ≡ true → reads text_item bs ≡ Ok (tt, after)
    → IsBody after rest → IsBody bs rest
body_step bs after rest h e p = (tt ∷ p.0, p.1, item_step bs after h e p.0 (p.1 ∷ rest) p.2, p.3)

text_body : (bs rest : List ℕ) → after_text bs ≡ Some rest → IsBody bs rest
text_body [] rest e = none_is_not rest e
text_body (b ∷ []) rest e = elim (cases_Bool (class_of b == quote)) [
  | inl h ↦
      let q = eqb-true (class_of b) quote h in
      let same = same_Some [] rest (sym (if_true (class_of b == quote) (Some []) None h) ∙ e) in
      ([], b, no_item b [] q ∙ ap (λ (w : List ℕ). Ok ([], b ∷ w)) same, q)
  | inr h ↦ none_is_not rest (sym (if_false (class_of b == quote) (Some []) None h) ∙ e)
]
text_body (b ∷ c ∷ bs) rest e = elim (cases_Bool (class_of b == quote)) [
  | inl h ↦
      let q = eqb-true (class_of b) quote h in
      let same = same_Some (c ∷ bs) rest (sym (if_true (class_of b == quote) (Some (c ∷ bs)) _ h) ∙ e) in
      ([], b, no_item b (c ∷ bs) q ∙ ap (λ (w : List ℕ). Ok ([], b ∷ w)) same, q)
  | inr h ↦ elim (cases_Bool (class_of b == line_feed)) [
    | inl g ↦ none_is_not rest (sym (rw (h, g) refl) ∙ e)
    | inr g ↦ elim (cases_Bool (class_of b == backslash)) [
      | inl f ↦
          let s = eqb-true (class_of b) backslash f in
          elim (cases_Bool (class_of c == line_feed)) [
            | inl k ↦ none_is_not rest (sym (rw (s, k) refl) ∙ e)
            | inr k ↦
                body_step (b ∷ c ∷ bs) bs rest (rw s refl) (escaped_item b c bs s (line_goes_on c k))
                (text_body bs rest (sym (let p : after_text (b ∷ c ∷ bs) ≡ after_text bs = rw (s, k) refl in p) ∙ e))
          ]
      | inr f ↦
          let p = is_plain b h g f in
          body_step (b ∷ c ∷ bs) (c ∷ bs) rest (among-right (backslash ∷ []) plain_bytes (class_of b) p)
          (plain_item b (c ∷ bs) f p)
          (text_body (c ∷ bs) rest (sym (let q : after_text (b ∷ c ∷ bs) ≡ after_text (c ∷ bs) = rw (h, g, f) refl in q) ∙ e))
    ]
  ]
]

-- a text is read whole
pub text_read : (b : ℕ) (bs rest : List ℕ) → class_of b ≡ quote → after_text bs ≡ Some rest
    → reads text_line (b ∷ bs) ≡ Ok (kinds.Text, rest)
unfolding text_line
text_read b bs rest h e = let p = text_body bs rest e in rw (h, p.2, p.3) refl

-- ---- numbers

number_kind_is : (text : List ℕ) (n : ℕ) → number_value text ≡ Some n → number_kind text ≡ kinds.Number n
unfolding number_kind
number_kind_is text n e = ap kind_of_value e

zero_read : (b : ℕ) (cs : List ℕ) → class_of b ≡ 3 → starts class_of (cross ∷ []) cs ≡ false
    → reads number_line (b ∷ cs) ≡ Ok (number_kind (b ∷ []), cs)
unfolding number_line hex_line
zero_read b cs h g = rw (h, g) refl

hex_read : (b x d : ℕ) (cs : List ℕ) → class_of b ≡ 3 → class_of x ≡ 2 → among hex_digits (class_of d) ≡ true
    → reads number_line (b ∷ x ∷ d ∷ cs) ≡ Ok (number_kind (b ∷ x ∷ d ∷ run hex_digits cs), after_run hex_digits cs)
unfolding number_line hex_line
hex_read b x d cs h g f = rw (h, g, f, run_is hex_digits cs) refl

digits_read : (b : ℕ) (cs : List ℕ) → class_of b ≡ 4
    → reads number_line (b ∷ cs) ≡ Ok (number_kind (b ∷ run digits cs), after_run digits cs)
unfolding number_line
digits_read b cs h = rw (h, run_is digits cs) refl

-- a run all of whose bytes are of fewer classes is their run too
all_run : (cs : List ℕ) (is : ℕ → Bool) → ((b : ℕ) → is b ≡ true → among cs (class_of b) ≡ true) → within cs word_bytes ≡ true
    → (bs : List ℕ) → list_all is (run word_bytes bs) ≡ true → (run cs bs ≡ run word_bytes bs)
    × (after_run cs bs ≡ after_run word_bytes bs)
all_run cs is up w [] h = (refl, refl)
all_run cs is up w (b ∷ bs) h = elim (cases_Bool (among word_bytes (class_of b))) [
  | inl f ↦
      let g : list_all is (b ∷ run word_bytes bs) ≡ true = search (rules, if_true) in
      let p = and_parts (is b) (list_all is (run word_bytes bs)) g in
      let r = all_run cs is up w bs p.1 in
      rw (f, up b p.0, r.0, r.1) (refl, refl)
  | inr f ↦ rw (f, not_within cs word_bytes (class_of b) w f) (refl, refl)
]

run_none : (cs bs : List ℕ) → run cs bs ≡ [] → (starts class_of cs bs ≡ false) × (after_run cs bs ≡ bs)
run_none cs [] e = (refl, refl)
run_none cs (b ∷ bs) e = search (rules, cases_Bool, no_nil, if_true)

run_some : (cs bs : List ℕ) (x : ℕ) (r : List ℕ) → run cs bs ≡ x ∷ r → (more : List ℕ) × (bs ≡ x ∷ more) × (run cs more ≡ r)
    × (after_run cs bs ≡ after_run cs more)
run_some cs [] x r e = no_nil x r (sym e)
run_some cs (b ∷ bs) x r e = search (rules, cases_Bool, if_true, head_is, tail_is, no_nil, if_false)

-- the value of a number that doesn't begin with 0 is that of digits
decimal_digits : (b : ℕ) (r : List ℕ) (n : ℕ) → (b == 48) ≡ false → number_value (b ∷ r) ≡ Some n → list_all is_digit r ≡ true
decimal_digits b [] n h e = refl
decimal_digits b (x ∷ r) n h e = search (rules, and_parts, fits_true)

module _ (b : ℕ) (n : ℕ) (zero : class_of b ≡ 3) where
  hex_whole : (x : ℕ) (r cs : List ℕ) → run word_bytes cs ≡ x ∷ r → class_of x ≡ 2 → is_hexadecimal r ≡ true
      → number_value (b ∷ x ∷ r) ≡ Some n → reads number_line (b ∷ cs) ≡ Ok (kinds.Number n, after_run word_bytes cs)
  hex_whole x [] cs p c h e = absurd cc
  hex_whole x (d ∷ r) cs p c h e =
      let q = and_parts (is_hex_digit d) (list_all is_hex_digit r) h in
      let one = run_some word_bytes cs x (d ∷ r) p in
      let two = run_some word_bytes one.0 d r one.2 in
      let all = all_run hex_digits is_hex_digit hex_class refl two.0 (subst (λ (w : List ℕ). list_all is_hex_digit w ≡ true)
      (sym two.2) q.1) in
      let text : run hex_digits two.0 ≡ r = all.0 ∙ two.2 in
      let after : after_run hex_digits two.0 ≡ after_run word_bytes cs = all.1 ∙ sym two.3 ∙ sym one.3 in
      let bytes : cs ≡ x ∷ d ∷ two.0 = one.1 ∙ ap (λ (w : List ℕ). x ∷ w) two.1 in
      ap (λ (w : List ℕ). reads number_line (b ∷ w)) bytes ∙ hex_read b x d two.0 zero c (hex_class d q.0)
      ∙ ap (λ (w : List ℕ). Ok (number_kind (b ∷ x ∷ d ∷ w), after_run hex_digits two.0)) text
      ∙ ap (λ (w : List ℕ). Ok (number_kind (b ∷ x ∷ d ∷ r), w)) after
      ∙ ap (λ k. Ok (k, after_run word_bytes cs)) (number_kind_is (b ∷ x ∷ d ∷ r) n e)

  zero_whole : (r cs : List ℕ) → run word_bytes cs ≡ r → number_value (b ∷ r) ≡ Some n
      → reads number_line (b ∷ cs) ≡ Ok (kinds.Number n, after_run word_bytes cs)
  zero_whole [] cs p e =
      let s = run_none word_bytes cs p in
      zero_read b cs zero (no_cross cs s.0) ∙ ap (λ (w : List ℕ). Ok (number_kind (b ∷ []), w)) (sym s.1)
      ∙ ap (λ k. Ok (k, after_run word_bytes cs)) (number_kind_is (b ∷ []) n e)
    where
      no_cross : (cs : List ℕ) → starts class_of word_bytes cs ≡ false → starts class_of (cross ∷ []) cs ≡ false
      no_cross [] h = refl
      no_cross (c ∷ cs) h = not_within (cross ∷ []) word_bytes (class_of c) refl h
  zero_whole (x ∷ r) cs p e =
      let z : b ≡ 48 = zero_class b zero in
      let e' : number_value (48 ∷ x ∷ r) ≡ Some n = subst (λ (y : ℕ). number_value (y ∷ x ∷ r) ≡ Some n) z e in
      elim (cases_Bool (x == 120 || x == 88)) [
        | inl h ↦
            let f : fits (is_hexadecimal r) (digits_value 16 r) ≡ Some n = search (rules, if_true) in
            hex_whole x r cs p (cross_class x h) (fits_true (is_hexadecimal r) (digits_value 16 r) n f) e
        | inr h ↦ search (rules, if_false, eqb-true, fits_true)
      ]

digits_whole : (b : ℕ) (cs : List ℕ) (n : ℕ) → class_of b ≡ 4 → number_value (b ∷ run word_bytes cs) ≡ Some n
    → reads number_line (b ∷ cs) ≡ Ok (kinds.Number n, after_run word_bytes cs)
digits_whole b cs n h e =
    let all = all_run digits is_digit digit_class refl cs (decimal_digits b (run word_bytes cs) n (not_zero_class b h) e) in
    digits_read b cs h
    ∙ ap (λ (w : List ℕ). Ok (number_kind (b ∷ w), after_run digits cs)) all.0
    ∙ ap (λ (w : List ℕ). Ok (number_kind (b ∷ run word_bytes cs), w)) all.1
    ∙ ap (λ k. Ok (k, after_run word_bytes cs)) (number_kind_is (b ∷ run word_bytes cs) n e)

-- a number is read whole, with its value
pub number_read : (bs : List ℕ) (n : ℕ) → starts class_of digits bs ≡ true → number_value (run word_bytes bs) ≡ Some n
    → reads number_line bs ≡ Ok (kinds.Number n, after_run word_bytes bs)
number_read [] n h e = absurd cc
number_read (b ∷ cs) n h e = search (rules, among-right, digit_cases, zero_whole, digits_whole)
