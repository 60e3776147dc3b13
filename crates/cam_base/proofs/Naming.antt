-- What stands for a name is one; a word and a number are a name.
use Rattle.cam_base.proofs.Common.{AllByRecursion, Bool, List, [], all_below_base_digits_of, and_from, and_parts, arith, cond, decimal, decimal-digits_of, decimal_digit, is_letter, is_name, is_word_byte, le-leb, leb, leb-true, length, length-append, length-decimal-le}
use Rattle.cam_base.proofs.Common.{false, list_all, list_all-append, map, or_right, refl, suc, true, zero, ℕ, ◌&&◌, ◌++◌, ◌+◌, ◌<◌, ◌^◌, ◌∙◌, ◌∷◌, ◌≡◌, ◌≤◌}
use Rattle.std.specs.Int.Digits.{digits_of}
use Rattle.cam_base.specs.Names.{named}

digit : (d : ℕ) → d < 10 → is_word_byte (48 + d) ≡ true
digit d h = or_right (is_letter (48 + d)) (leb 48 (48 + d) && leb (48 + d) 57) (and_from (leb 48 (48 + d)) (leb (48 + d) 57)
    (le-leb 48 (48 + d) (omega arith)) (le-leb (48 + d) 57 (omega arith)))

all_digits : (ds : List ℕ) → AllByRecursion (λ d. d < 10) ds → list_all is_word_byte (map (λ d. 48 + d) ds) ≡ true
all_digits [] h = refl
all_digits (d ∷ ds) h = and_from (is_word_byte (48 + d)) (list_all is_word_byte (map (λ x. 48 + x) ds)) (digit d h.0)
    (all_digits ds h.1)

pub list_all-decimal : (n : ℕ) → n < 2 ^ 64 → list_all is_word_byte (decimal n) ≡ true
list_all-decimal zero h = rw (decimal_digit 0 (omega arith)) refl
list_all-decimal (suc n) h = rw (decimal-digits_of (suc n) (omega arith) h)
    (all_digits (digits_of 10 (suc n)) (all_below_base_digits_of 10 (suc n) (omega arith)))

pub named_is : (text : List ℕ) → is_name (named text) ≡ true
named_is text = by_test (is_name text) refl
  where
    by_test : (b : Bool) → is_name text ≡ b → is_name (cond b text (95 ∷ [])) ≡ true
    by_test true e = e
    by_test false e = refl

pub name_short : (text : List ℕ) → is_name text ≡ true → length text ≤ 127
name_short [] h = omega arith
name_short (b ∷ bs) h = grind (arith, leb-true, and_parts, leb)

pub parts_short : (front back : List ℕ) → is_name (front ++ back) ≡ true → length front + length back ≤ 127
parts_short front back h = omega (arith, name_short (front ++ back) h, length-append front back)

pub is_name-append : (word more : List ℕ) → is_name word ≡ true → list_all is_word_byte more ≡ true
    → length word + length more ≤ 127 → is_name (word ++ more) ≡ true
is_name-append [] more w m l = absurd cc
is_name-append (b ∷ bs) more w m l =
    let parts = and_parts (leb (length bs) 126) (is_letter b && list_all is_word_byte bs) w in
    let inner = and_parts (is_letter b) (list_all is_word_byte bs) parts.1 in
    let all : list_all is_word_byte (bs ++ more) ≡ true = list_all-append is_word_byte bs more
    ∙ and_from (list_all is_word_byte bs) (list_all is_word_byte more) inner.1 m in
    let short : length (bs ++ more) ≤ 126 = omega (arith, length-append bs more) in
    and_from (leb (length (bs ++ more)) 126) (is_letter b && list_all is_word_byte (bs ++ more))
    (le-leb (length (bs ++ more)) 126 short)
    (and_from (is_letter b) (list_all is_word_byte (bs ++ more)) inner.0 all)

pub is_name-numbered : (word : List ℕ) (n : ℕ) → is_name word ≡ true → length word ≤ 6 → n < 2 ^ 64
    → is_name (word ++ decimal n) ≡ true
is_name-numbered word n w l h =
    let short : length (decimal n) ≤ 20 = length-decimal-le 20 n (omega arith) (omega arith) h in
    is_name-append word (decimal n) w (list_all-decimal n h) (omega arith)

pub ruleset naming = (is_name-numbered)
