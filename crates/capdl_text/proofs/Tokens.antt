-- What the step takes from the front is a token, and the longest one there.
use Rattle.std.proofs.Common.{rules}
use Rattle.capdl_text.proofs.Common.{Bool, IsTokenAt, Kind, List, Mark, None, Option, Some, [], after_run, after_text, and_parts, ap, append-nil, arith, bytes_eq, bytes_eq-Decides, cases_Bool, codes, cond, digits_kind, digits_taken, ends_text}
use Rattle.capdl_text.proofs.Common.{eqb-true, false, fault_at, fits, if◌then◌else◌, inl, inr, is_decimal, is_digit, is_end, is_hex_digit, is_hexadecimal, is_letter, is_some, is_word_byte, length, list_all, mark_of, mark_taken, nat_tests}
use Rattle.capdl_text.proofs.Common.{none_is_not, number_value, option_map, refl, run, same_Some, subst, suc, sym, text_taken, true, true_is_not_false, word_of, word_taken, ℕ, ◌&&◌, ◌++◌, ◌==◌, ◌||◌, ◌∙◌, ◌∷◌, ◌≡◌}
use Rattle.cam_base.proofs.Values.{fits_true}
use Rattle.std.specs.Str.Parse.{digits_value}
use Rattle.capdl_text.specs.declared.token.Kind.TheVariants as kinds
use Rattle.capdl_text.specs.Pieces.{one_token}
use Rattle.capdl_text.specs.TokenKinds.{kind_of}
use Rattle.capdl_text.proofs.Runs.{run_after, run_passes}

-- the first byte behind a run doesn't pass
pub run_stops : (test : ℕ → Bool) (bs : List ℕ) (c : ℕ) (cs : List ℕ) → after_run test bs ≡ c ∷ cs → test c ≡ false
run_stops test [] c cs e = absurd cc
run_stops test (b ∷ bs) c cs e = elim (cases_Bool (test b)) [
  | inl h ↦ run_stops test bs c cs (let p : after_run test bs ≡ after_run test (b ∷ bs) = rw h refl in p ∙ e)
  | inr h ↦ let p : b ∷ bs ≡ c ∷ cs = (let q : b ∷ bs ≡ after_run test (b ∷ bs) = rw h refl in q ∙ e) in let s : b ≡ c =
      cc in rw (← s) h
]

-- a list that goes on with a byte that doesn't pass
all_stops : (test : ℕ → Bool) (a : List ℕ) (c : ℕ) (cs : List ℕ) → test c ≡ false → list_all test (a ++ c ∷ cs) ≡ false
all_stops test [] c cs h = rw h refl
all_stops test (b ∷ a) c cs h = rw (all_stops test a c cs h) (by_test (test b))
  where
    by_test : (b : Bool) → (b && false) ≡ false
    by_test true = refl
    by_test false = refl

-- ---- numbers are made of bytes of words

pub word_or : (b : ℕ) → is_letter b ≡ true → is_word_byte b ≡ true
word_or b h = rw h refl

pub digit_or : (b : ℕ) → is_digit b ≡ true → is_word_byte b ≡ true
digit_or b h = grind (arith, nat_tests)

hex_or : (b : ℕ) → is_hex_digit b ≡ true → is_word_byte b ≡ true
hex_or b h = grind (arith, nat_tests)

all_of : (test other : ℕ → Bool) → ((b : ℕ) → test b ≡ true → other b ≡ true) → (bs : List ℕ) → list_all test bs ≡ true
    → list_all other bs ≡ true
all_of test other f [] h = refl
all_of test other f (b ∷ bs) h = let p = and_parts (test b) (list_all test bs) h in rw (f b p.0, all_of test other f bs p.1) refl

not_zero : (n : ℕ) → (suc n == 0) ≡ false
not_zero n = grind (arith, nat_tests)

decimal_word : (bs : List ℕ) → is_decimal bs ≡ true → list_all is_word_byte bs ≡ true
decimal_word [] h = refl
decimal_word (b ∷ bs) h = by_test (b == 48) bs refl h
  where
    by_test : (z : Bool) (bs : List ℕ) → (b == 48) ≡ z → cond z (length bs == 0) (is_digit b && list_all is_digit bs) ≡ true
        → list_all is_word_byte (b ∷ bs) ≡ true
    by_test true [] e h = let s = eqb-true b 48 e in rw s refl
    by_test true (c ∷ bs) e h = true_is_not_false (length (c ∷ bs) == 0) h (not_zero (length bs))
    by_test false bs e h = let p = and_parts (is_digit b) (list_all is_digit bs) h in
        rw (digit_or b p.0, all_of is_digit is_word_byte digit_or bs p.1) refl

pub number_word : (bs : List ℕ) (n : ℕ) → number_value bs ≡ Some n → list_all is_word_byte bs ≡ true
number_word [] n e = refl
number_word (b ∷ []) n e = decimal_word (b ∷ []) (fits_true (is_decimal (b ∷ [])) (digits_value 10 (b ∷ [])) n e)
number_word (z ∷ x ∷ ds) n e = by_test (z == 48 && (x == 120 || x == 88)) refl e
  where
    hex_word : (ds : List ℕ) → is_hexadecimal ds ≡ true → list_all is_word_byte ds ≡ true
    hex_word [] h = refl
    hex_word (d ∷ ds) h = let p = and_parts (is_hex_digit d) (list_all is_hex_digit ds) h in
        rw (hex_or d p.0, all_of is_hex_digit is_word_byte hex_or ds p.1) refl

    cross_word : (x : ℕ) → (x == 120 || x == 88) ≡ true → is_word_byte x ≡ true
    cross_word x h = grind (arith, nat_tests)

    by_test : (t : Bool) → (z == 48 && (x == 120 || x == 88)) ≡ t → cond t (fits (is_hexadecimal ds) (digits_value 16 ds))
        (fits (is_decimal (z ∷ x ∷ ds)) (digits_value 10 (z ∷ x ∷ ds))) ≡ Some n → list_all is_word_byte (z ∷ x ∷ ds) ≡ true
    by_test true t q =
        let p = and_parts (z == 48) (x == 120 || x == 88) t in
        let zero : z ≡ 48 = eqb-true z 48 p.0 in
        let first : is_word_byte z ≡ true = rw zero refl in
        rw (first, cross_word x p.1, hex_word ds (fits_true (is_hexadecimal ds) (digits_value 16 ds) n q)) refl
    by_test false t q = decimal_word (z ∷ x ∷ ds) (fits_true (is_decimal (z ∷ x ∷ ds)) (digits_value 10 (z ∷ x ∷ ds)) n q)

pub digits_word : (w : List ℕ) → is_some (digits_kind w) ≡ true → list_all is_word_byte w ≡ true
digits_word w h = by_test (bytes_eq w (codes "4k")) refl (number_value w) refl h
  where
    by_test : (t : Bool) → bytes_eq w (codes "4k") ≡ t → (v : Option ℕ) → number_value w ≡ v
        → is_some (cond t (Some kinds.Page) (option_map kinds.Number v)) ≡ true → list_all is_word_byte w ≡ true
    by_test true t v e q = let same : w ≡ codes "4k" = (bytes_eq-Decides w (codes "4k")).0 t in rw same refl
    by_test false t None e q = true_is_not_false false q refl
    by_test false t (Some n) e q = number_word w n e

-- ---- the longest token

word_at : (b : ℕ) (bs : List ℕ) → is_letter b ≡ true → fault_at (b ∷ bs) ≡ None
    → IsTokenAt (b ∷ bs) (kinds.Word (word_of (b ∷ run is_word_byte bs))) (after_run is_word_byte bs)
unfolding kind_of
word_at b bs h clean = record {
  text = b ∷ run is_word_byte bs;
  parts = ap (λ (w : List ℕ). b ∷ w) (sym (run_after is_word_byte bs));
  kind = rw (h, run_passes is_word_byte bs) refl;
  longest = go;
  clean = clean;
}
  where
    go : (longer after : List ℕ) → after_run is_word_byte bs ≡ longer ++ after
        → is_some (kind_of (b ∷ run is_word_byte bs ++ longer)) ≡ true → longer ≡ []
    go [] after p q = refl
    go (c ∷ cs) after p q =
        let no = run_stops is_word_byte bs c (cs ++ after) p in
        true_is_not_false (is_some (kind_of (b ∷ run is_word_byte bs ++ c ∷ cs))) q
        (rw (h, all_stops is_word_byte (run is_word_byte bs) c cs no) refl)

digits_at : (b : ℕ) (bs : List ℕ) (k : Kind) → is_letter b ≡ false → is_digit b ≡ true
    → digits_kind (b ∷ run is_word_byte bs) ≡ Some k → fault_at (b ∷ bs) ≡ None → IsTokenAt (b ∷ bs) k (after_run is_word_byte bs)
unfolding kind_of
digits_at b bs k l h e clean = record {
  text = b ∷ run is_word_byte bs;
  parts = ap (λ (w : List ℕ). b ∷ w) (sym (run_after is_word_byte bs));
  kind = let p : kind_of (b ∷ run is_word_byte bs) ≡ digits_kind (b ∷ run is_word_byte bs) = rw (l, h) refl in p ∙ e;
  longest = go;
  clean = clean;
}
  where
    go : (longer after : List ℕ) → after_run is_word_byte bs ≡ longer ++ after
        → is_some (kind_of (b ∷ run is_word_byte bs ++ longer)) ≡ true → longer ≡ []
    go [] after p q = refl
    go (c ∷ cs) after p q =
        let no = run_stops is_word_byte bs c (cs ++ after) p in
        let is : kind_of (b ∷ run is_word_byte bs ++ c ∷ cs) ≡ digits_kind (b ∷ run is_word_byte bs ++ c ∷ cs) = rw (l, h) refl in
        true_is_not_false (list_all is_word_byte (b ∷ run is_word_byte bs ++ c ∷ cs))
        (digits_word (b ∷ run is_word_byte bs ++ c ∷ cs) (rw is at q))
        (all_stops is_word_byte (b ∷ run is_word_byte bs) c cs no)

-- what stands between a quote and the rest behind the next
upto : List ℕ → List ℕ
upto [] = []
upto (b ∷ bs) = if b == 34 then b ∷ [] else b ∷ upto bs

upto_parts : (bs rest : List ℕ) → after_text bs ≡ Some rest → bs ≡ upto bs ++ rest
unfolding upto
upto_parts [] rest e = none_is_not rest e
upto_parts (b ∷ bs) rest e = by_test (b == 34) (b == 10) (upto_parts bs rest) e
  where
    by_test : (q l : Bool) → (after_text bs ≡ Some rest → bs ≡ upto bs ++ rest)
        → cond q (Some bs) (cond l None (after_text bs)) ≡ Some rest → b ∷ bs ≡ cond q (b ∷ []) (b ∷ upto bs) ++ rest
    by_test true l more p = ap (λ (w : List ℕ). b ∷ w) (same_Some bs rest p)
    by_test false true more p = none_is_not rest p
    by_test false false more p = ap (λ (w : List ℕ). b ∷ w) (more p)

upto_ends : (bs rest longer : List ℕ) → after_text bs ≡ Some rest → ends_text (upto bs ++ longer) ≡ is_end longer
unfolding upto
upto_ends [] rest longer e = none_is_not rest e
upto_ends (b ∷ bs) rest longer e = by_test (b == 34) (b == 10) (upto_ends bs rest longer) refl refl e
  where
    by_test : (q l : Bool) → (after_text bs ≡ Some rest → ends_text (upto bs ++ longer) ≡ is_end longer) → (b == 34) ≡ q
        → (b == 10) ≡ l → cond q (Some bs) (cond l None (after_text bs)) ≡ Some rest
        → ends_text (cond q (b ∷ []) (b ∷ upto bs) ++ longer) ≡ is_end longer
    by_test true l more qe le p = rw qe refl
    by_test false true more qe le p = none_is_not rest p
    by_test false false more qe le p = rw (qe, le) (more p)

text_at : (bs rest : List ℕ) → after_text bs ≡ Some rest → fault_at (34 ∷ bs) ≡ None → IsTokenAt (34 ∷ bs) kinds.Text rest
unfolding kind_of
text_at bs rest e clean = record {
  text = 34 ∷ upto bs;
  parts = ap (λ (w : List ℕ). 34 ∷ w) (upto_parts bs rest e);
  kind = let p : ends_text (upto bs) ≡ true = ap ends_text (sym (append-nil (upto bs))) ∙ upto_ends bs rest [] e in rw p refl;
  longest = go;
  clean = clean;
}
  where
    go : (longer after : List ℕ) → rest ≡ longer ++ after → is_some (kind_of (34 ∷ upto bs ++ longer)) ≡ true → longer ≡ []
    go [] after p q = refl
    go (c ∷ cs) after p q = search (rules, upto, upto_ends, true_is_not_false)

mark_at : (b : ℕ) (bs : List ℕ) (m : Mark) → is_letter b ≡ false → is_digit b ≡ false → (b == 34) ≡ false → mark_of b ≡ Some m
    → fault_at (b ∷ bs) ≡ None → IsTokenAt (b ∷ bs) (kinds.Mark m) bs
unfolding kind_of
mark_at b bs m l d q e clean = record {
  text = b ∷ [];
  parts = refl;
  kind = rw (l, d, q, e) refl;
  longest = go;
  clean = clean;
}
  where
    go : (longer after : List ℕ) → bs ≡ longer ++ after → is_some (kind_of (b ∷ longer)) ≡ true → longer ≡ []
    go [] after p h = refl
    go (c ∷ cs) after p h = true_is_not_false (is_some (kind_of (b ∷ c ∷ cs))) h (rw (l, d, q) refl)

-- what the step takes is a token
pub token_at : (bs : List ℕ) (k : Kind) (rest : List ℕ) → one_token bs ≡ Some (k, rest) → fault_at bs ≡ None → IsTokenAt bs k rest
unfolding one_token
token_at [] k rest e clean = none_is_not (k, rest) e
token_at (b ∷ bs) k rest e clean = by_test (is_letter b) (is_digit b) (b == 34) refl refl refl e
  where
    digits_go : (k' : Option Kind) (w r : List ℕ) → is_letter b ≡ false → is_digit b ≡ true → digits_kind w ≡ k'
        → w ≡ b ∷ run is_word_byte bs → r ≡ after_run is_word_byte bs → option_map {U = Kind × List ℕ} (λ k. (k, r)) k' ≡ Some
        (k, rest) → IsTokenAt (b ∷ bs) k rest
    digits_go None w r l d p a c q = none_is_not (k, rest) q
    digits_go (Some j) w r l d p a c q = search (rules, digits_at, same_Some)

    text_go : (r : Option (List ℕ)) → b ≡ 34 → after_text bs ≡ r → option_map {U = Kind × List ℕ} (λ rest. (kinds.Text, rest))
        r ≡ Some (k, rest) → IsTokenAt (b ∷ bs) k rest
    text_go None s p q = none_is_not (k, rest) q
    text_go (Some r) s p q = search (rules, text_at, same_Some)

    mark_go : (m : Option Mark) → is_letter b ≡ false → is_digit b ≡ false → (b == 34) ≡ false → mark_of b ≡ m
        → option_map {U = Kind × List ℕ} (λ m. (kinds.Mark m, bs)) m ≡ Some (k, rest) → IsTokenAt (b ∷ bs) k rest
    mark_go None l d s p q = none_is_not (k, rest) q
    mark_go (Some m) l d s p q = subst (λ (x : Kind × List ℕ). IsTokenAt (b ∷ bs) x.0 x.1)
        (same_Some (kinds.Mark m, bs) (k, rest) q) (mark_at b bs m l d s p clean)

    by_test : (l d q : Bool) → is_letter b ≡ l → is_digit b ≡ d → (b == 34) ≡ q
        → cond l (word_taken (b ∷ bs)) (cond d (digits_taken (b ∷ bs)) (cond q (text_taken bs) (mark_taken b bs)))
        ≡ Some (k, rest)
        → IsTokenAt (b ∷ bs) k rest
    by_test true d q le de qe p = search (rules, word_or, same_Some, word_at)
    by_test false true q le de qe p =
        let w : is_word_byte b ≡ true = digit_or b de in
        digits_go (digits_kind (run is_word_byte (b ∷ bs))) (run is_word_byte (b ∷ bs)) (after_run is_word_byte (b ∷ bs)) le de
        refl (rw w refl) (rw w refl) p
    by_test false false true le de qe p = text_go (after_text bs) (eqb-true b 34 qe) refl p
    by_test false false false le de qe p = mark_go (mark_of b) le de qe refl p
