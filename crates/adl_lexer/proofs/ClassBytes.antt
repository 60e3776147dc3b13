-- Which bytes a class has.
use Rattle.adl_lexer.proofs.Common.{Bool, List, [], among, among-left, and_parts, arith, cases_Bool, class_in, cond, digits, eqb-true, false, if_false, if_true, inl, inr, is_digit, is_hex_digit, is_letter, is_word_byte, le-leb, leb, leb-true}
use Rattle.adl_lexer.proofs.Common.{left_out_class, left_out_rows, letters, list_all, mark_class, mark_rows, not, not-true, or_cases, or_right, refl, sign_class, sign_rows, sym, true, true_is_not_false, word_bytes, ℕ, ◌&&◌, ◌==◌, ◌||◌, ◌∙◌, ◌∷◌, ◌≡◌}
use Rattle.adl_lexer.proofs.Common.{rules, ◌≤◌}
use Rattle.std.proofs.lemmas.Bool.Decides.{Decides-eqb}
use Rattle.adl_lexer.specs.Classes.{class_of}
use Rattle.adl_lexer.proofs.Classes.{if_has, sign_has}

-- what is true of each row is true of a byte and the class that is given
class_in_pairs : (R : ℕ → ℕ → Bool) (rows : List (ℕ × ℕ)) (c b : ℕ) → list_all (λ row. R row.0 row.1) rows ≡ true → R b c ≡ true
    → R b (class_in rows c b) ≡ true
class_in_pairs R [] c b h g = g
class_in_pairs R (row ∷ rows) c b h g =
    let p = and_parts (R row.0 row.1) (list_all (λ row. R row.0 row.1) rows) h in
    elim (cases_Bool (b == row.0)) [ inl e ↦ rw (e, eqb-true b row.0 e) p.0 | inr e ↦ rw e (class_in_pairs R rows c b p.1 g) ]

-- if the class is k, the byte is v
abbrev only : ℕ → ℕ → ℕ → ℕ → Bool
only k v b c = cond (k == c) (b == v) true

only_is : (k v b c : ℕ) → only k v b c ≡ true → c ≡ k → b ≡ v
only_is k v b c h e = eqb-true b v (sym (if_true (k == c) (b == v) true ((Decides-eqb k c).1 (sym e))) ∙ h)

only_other : (k v b c : ℕ) → (k == c) ≡ false → only k v b c ≡ true
only_other k v b c h = if_false (k == c) (b == v) true h

-- where the tables give the class k to the byte v alone, a byte of that class is v
pub byte_of : (k v : ℕ) → list_all (λ row. only k v row.0 row.1) sign_rows ≡ true
    → list_all (λ row. only k v row.0 row.1) mark_rows ≡ true → list_all (λ row. only k v row.0 row.1) left_out_rows ≡ true
    → (k == 0) ≡ false → (k == 1) ≡ false → (k == 2) ≡ false → (k == 3) ≡ false → (k == 4) ≡ false → (k == 25) ≡ false → (b : ℕ)
    → class_of b ≡ k → b ≡ v
unfolding class_of
byte_of k v s m l r0 r1 r2 r3 r4 r25 b e =
    only_is k v b (class_of b) (
    if_has (only k v b) (is_digit b) (cond (b == 48) 3 4) _ (if_has (only k v b) (b == 48) 3 4 (only_other k v b 3 r3)
    (only_other k v b 4 r4))
    (if_has (only k v b) (is_hex_digit b) 1 _ (only_other k v b 1 r1)
    (if_has (only k v b) (is_letter b) (cond (b == 120 || b == 88) 2 0) (sign_class b) (if_has (only k v b) (b == 120 || b == 88)
    2 0 (only_other k v b 2 r2) (only_other k v b 0 r0))
    (class_in_pairs (only k v) sign_rows (mark_class b) b s (class_in_pairs (only k v) mark_rows (left_out_class b) b m
    (class_in_pairs (only k v) left_out_rows 25 b l (only_other k v b 25 r25)))))))
    e

leb_up : (b m n : ℕ) → leb b m ≡ true → m ≤ n → leb b n ≡ true
leb_up b m n h le = le-leb b n (let p = leb-true b m h in omega (arith, p, le))

-- a hexadecimal digit that is no digit is a letter
hex_is_letter : (b : ℕ) → is_digit b ≡ false → is_hex_digit b ≡ true → is_letter b ≡ true
hex_is_letter b d h = search (rules, or_cases, true_is_not_false, and_parts, leb_up)

-- a byte that is no digit and no letter has no class of a word's
no_word_class : (b : ℕ) → is_digit b ≡ false → is_letter b ≡ false → among word_bytes (class_of b) ≡ false
unfolding class_of
no_word_class b d n = search (rules, cases_Bool, true_is_not_false, hex_is_letter, if_false, not-true, sign_has)

digit_no_letter : (b : ℕ) → is_digit b ≡ true → among letters (class_of b) ≡ false
unfolding class_of
digit_no_letter b d = search (rules, if_true, not-true, if_has)

pub word_byte_of : (b : ℕ) → among word_bytes (class_of b) ≡ true → is_word_byte b ≡ true
word_byte_of b h = search (rules, cases_Bool, or_right, true_is_not_false, no_word_class)

pub letter_of : (b : ℕ) → among letters (class_of b) ≡ true → is_letter b ≡ true
letter_of b h = elim (cases_Bool (is_digit b)) [
  | inl d ↦ true_is_not_false (among letters (class_of b)) h (digit_no_letter b d)
  | inr d ↦ elim (cases_Bool (is_letter b)) [
    | inl n ↦ n
    | inr n ↦ true_is_not_false (among word_bytes (class_of b))
        (among-left letters digits (class_of b) h) (no_word_class b d n)
  ]
]
