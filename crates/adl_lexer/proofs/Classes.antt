-- Which classes bytes can have.
use Rattle.adl_lexer.proofs.Common.{Bool, List, [], among, and_parts, ap, arith, blanks, cases_Bool, class_in, cond, digits, eqb-true, false, get_or, hex_digits, if_false, if_true, inl, inr, is_digit, is_hex_digit, is_letter, left_out_class}
use Rattle.adl_lexer.proofs.Common.{left_out_rows, letters, line_bytes, list_all, map, mark_class, mark_rows, not, not-true, range_with_len, refl, sign_class, sign_rows, subst, sym, true, true_is_not_false, ℕ, ◌&&◌, ◌<◌, ◌==◌, ◌||◌, ◌∙◌, ◌∷◌, ◌≡◌}
use Rattle.adl_lexer.proofs.Common.{rules, ◌⊎◌}
use Rattle.std.proofs.lemmas.List.FromFn.{get_or-map-range_with_len}
use Rattle.adl_lexer.specs.Classes.{class_of}

-- the class of each byte, as the code has it
abbrev class_table : List ℕ
class_table = 25 ∷ 25 ∷ 25 ∷ 25 ∷ 25 ∷ 25 ∷ 25 ∷ 25 ∷ 25 ∷ 5 ∷ 6 ∷ 25 ∷ 25 ∷ 5 ∷ 25 ∷ 25 ∷ 25 ∷ 25 ∷ 25 ∷ 25 ∷ 25 ∷ 25 ∷ 25 ∷ 25
    ∷ 25 ∷ 25 ∷ 25 ∷ 25 ∷ 25 ∷ 25 ∷ 25 ∷ 25 ∷ 5 ∷ 24 ∷ 11 ∷ 24 ∷ 25 ∷ 24 ∷ 24 ∷ 25 ∷ 16 ∷ 17 ∷ 24 ∷ 24 ∷ 21 ∷ 9 ∷ 13 ∷ 7 ∷ 3 ∷ 4
    ∷ 4 ∷ 4 ∷ 4 ∷ 4 ∷ 4 ∷ 4 ∷ 4 ∷ 4 ∷ 23 ∷ 20 ∷ 8 ∷ 22 ∷ 10 ∷ 24 ∷ 25 ∷ 1 ∷ 1 ∷ 1 ∷ 1 ∷ 1 ∷ 1 ∷ 0 ∷ 0 ∷ 0 ∷ 0 ∷ 0 ∷ 0 ∷ 0 ∷ 0 ∷ 0
    ∷ 0 ∷ 0 ∷ 0 ∷ 0 ∷ 0 ∷ 0 ∷ 0 ∷ 0 ∷ 2 ∷ 0 ∷ 0 ∷ 18 ∷ 12 ∷ 19 ∷ 24 ∷ 0 ∷ 25 ∷ 1 ∷ 1 ∷ 1 ∷ 1 ∷ 1 ∷ 1 ∷ 0 ∷ 0 ∷ 0 ∷ 0 ∷ 0 ∷ 0 ∷ 0
    ∷ 0 ∷ 0 ∷ 0 ∷ 0 ∷ 0 ∷ 0 ∷ 0 ∷ 0 ∷ 0 ∷ 0 ∷ 2 ∷ 0 ∷ 0 ∷ 14 ∷ 24 ∷ 15 ∷ 24 ∷ 25 ∷ 25 ∷ 25 ∷ 25 ∷ 25 ∷ 25 ∷ 25 ∷ 25 ∷ 25 ∷ 25 ∷ 25
    ∷ 25 ∷ 25 ∷ 25 ∷ 25 ∷ 25 ∷ 25 ∷ 25 ∷ 25 ∷ 25 ∷ 25 ∷ 25 ∷ 25 ∷ 25 ∷ 25 ∷ 25 ∷ 25 ∷ 25 ∷ 25 ∷ 25 ∷ 25 ∷ 25 ∷ 25 ∷ 25 ∷ 25 ∷ 25
    ∷ 25 ∷ 25 ∷ 25 ∷ 25 ∷ 25 ∷ 25 ∷ 25 ∷ 25 ∷ 25 ∷ 25 ∷ 25 ∷ 25 ∷ 25 ∷ 25 ∷ 25 ∷ 25 ∷ 25 ∷ 25 ∷ 25 ∷ 25 ∷ 25 ∷ 25 ∷ 25 ∷ 25 ∷ 25
    ∷ 25 ∷ 25 ∷ 25 ∷ 25 ∷ 25 ∷ 25 ∷ 25 ∷ 25 ∷ 25 ∷ 25 ∷ 25 ∷ 25 ∷ 25 ∷ 25 ∷ 25 ∷ 25 ∷ 25 ∷ 25 ∷ 25 ∷ 25 ∷ 25 ∷ 25 ∷ 25 ∷ 25 ∷ 25
    ∷ 25 ∷ 25 ∷ 25 ∷ 25 ∷ 25 ∷ 25 ∷ 25 ∷ 25 ∷ 25 ∷ 25 ∷ 25 ∷ 25 ∷ 25 ∷ 25 ∷ 25 ∷ 25 ∷ 25 ∷ 25 ∷ 25 ∷ 25 ∷ 25 ∷ 25 ∷ 25 ∷ 25 ∷ 25
    ∷ 25 ∷ 25 ∷ 25 ∷ 25 ∷ 25 ∷ 25 ∷ 25 ∷ 25 ∷ 25 ∷ 25 ∷ 25 ∷ 25 ∷ 25 ∷ 25 ∷ 25 ∷ 25 ∷ 25 ∷ 25 ∷ []

classes_are : class_table ≡ map class_of (range_with_len 0 256)
unfolding class_of
classes_are = refl

pub class_in_table : (b : ℕ) → b < 256 → get_or class_table b 0 ≡ class_of b
class_in_table b h = ap (λ (cs : List ℕ). get_or cs b 0) classes_are ∙ get_or-map-range_with_len class_of 0 256 b b 0 h
    (omega arith)

-- what is true of each row's class and of c is true of the class that is given
class_in_has : (Q : ℕ → Bool) (rows : List (ℕ × ℕ)) (c b : ℕ) → list_all (λ row. Q row.1) rows ≡ true → Q c ≡ true
    → Q (class_in rows c b) ≡ true
class_in_has Q [] c b h g = g
class_in_has Q (row ∷ rows) c b h g =
    let p = and_parts (Q row.1) (list_all (λ row. Q row.1) rows) h in
    elim (cases_Bool (b == row.0)) [ inl e ↦ rw e p.0 | inr e ↦ rw e (class_in_has Q rows c b p.1 g) ]

pub sign_has : (Q : ℕ → Bool) (b : ℕ) → list_all (λ row. Q row.1) sign_rows ≡ true → list_all (λ row. Q row.1) mark_rows ≡ true
    → list_all (λ row. Q row.1) left_out_rows ≡ true → Q 25 ≡ true → Q (sign_class b) ≡ true
sign_has Q b h g k l = class_in_has Q sign_rows (mark_class b) b h (class_in_has Q mark_rows (left_out_class b) b g
    (class_in_has Q left_out_rows 25 b k l))

-- what is true of both is true of either
pub if_has : (Q : ℕ → Bool) (p : Bool) (x y : ℕ) → Q x ≡ true → Q y ≡ true → Q (cond p x y) ≡ true
if_has Q true x y h g = h
if_has Q false x y h g = g

-- a byte that is no line feed may stand in a text or line
in_line : (b : ℕ) → among (6 ∷ line_bytes) (class_of b) ≡ true
unfolding class_of
in_line b =
    if_has (among (6 ∷ line_bytes)) (is_digit b) (cond (b == 48) 3 4) _ (if_has (among (6 ∷ line_bytes)) (b == 48) 3 4 refl refl)
    (if_has (among (6 ∷ line_bytes)) (is_hex_digit b) 1 _ refl (if_has (among (6 ∷ line_bytes)) (is_letter b)
    (cond (b == 120 || b == 88) 2 0) (sign_class b) (if_has (among (6 ∷ line_bytes)) (b == 120 || b == 88) 2 0 refl refl)
    (sign_has (among (6 ∷ line_bytes)) b refl refl refl refl)))

-- the class of a byte that is no digit
abbrev no_digit : ℕ → ℕ
no_digit b = cond (is_hex_digit b) 1 (cond (is_letter b) (cond (b == 120 || b == 88) 2 0) (sign_class b))

-- classes of digits are those of no other byte
digit_alone : (b : ℕ) → is_digit b ≡ false → among digits (class_of b) ≡ false
unfolding class_of
digit_alone b h =
    not-true (among digits (class_of b)) (subst (λ (c : ℕ). not (among digits c) ≡ true)
    (sym (if_false (is_digit b) (cond (b == 48) 3 4) (no_digit b) h)) (
    if_has (λ c. not (among digits c)) (is_hex_digit b) 1 _ refl (if_has (λ c. not (among digits c)) (is_letter b)
    (cond (b == 120 || b == 88) 2 0) (sign_class b) (if_has (λ c. not (among digits c)) (b == 120 || b == 88) 2 0 refl refl)
    (sign_has (λ c. not (among digits c)) b refl refl refl refl))))

pub digit_class : (b : ℕ) → is_digit b ≡ true → among digits (class_of b) ≡ true
unfolding class_of
digit_class b h = rw h (if_has (among digits) (b == 48) 3 4 refl refl)

pub hex_class : (b : ℕ) → is_hex_digit b ≡ true → among hex_digits (class_of b) ≡ true
unfolding class_of
hex_class b h = search (rules, cases_Bool, if_has, if_false, if_true)

four_is_not_three : {C : Type 0} (c d : ℕ) → c ≡ 4 → d ≡ 3 → c ≡ d → C
four_is_not_three c d p q e = absurd (omega (arith, p, q, e))

-- the digit of the class of 0 is 0
pub zero_class : (b : ℕ) → class_of b ≡ 3 → b ≡ 48
unfolding class_of
zero_class b h = search (rules, cases_Bool, eqb-true, four_is_not_three, if_true, if_false, true_is_not_false, digit_alone)

pub not_zero_class : (b : ℕ) → class_of b ≡ 4 → (b == 48) ≡ false
unfolding class_of
not_zero_class b h = search (rules, cases_Bool, eqb-true)

pub cross_class : (b : ℕ) → (b == 120 || b == 88) ≡ true → class_of b ≡ 2
unfolding class_of
cross_class b h = search (rules, cases_Bool, eqb-true, true_is_not_false)

-- the one class among one
pub one_of : (c d : ℕ) → among (d ∷ []) c ≡ true → c ≡ d
one_of c d h = elim (cases_Bool (c == d)) [ inl e ↦ eqb-true c d e | inr e ↦ true_is_not_false (among (d ∷ []) c) h (rw e refl) ]

-- the classes of digits
pub digit_cases : (c : ℕ) → among digits c ≡ true → (c ≡ 3) ⊎ (c ≡ 4)
digit_cases c h = search (rules, cases_Bool, eqb-true, one_of, if_false)

pub blank_cases : (c : ℕ) → among blanks c ≡ true → (c ≡ 5) ⊎ (c ≡ 6)
blank_cases c h = search (rules, cases_Bool, eqb-true, one_of, if_false)

pub letter_cases : (c : ℕ) → among letters c ≡ true → (c ≡ 0) ⊎ ((c ≡ 1) ⊎ (c ≡ 2))
letter_cases c h = search (rules, cases_Bool, eqb-true, one_of, if_false)

-- every code of one list is in the other
abbrev pub within : List ℕ → List ℕ → Bool
within [] ds = true
within (c ∷ cs) ds = among ds c && within cs ds

-- a class that isn't among the wider ones isn't among these
pub not_within : (cs ds : List ℕ) (c : ℕ) → within cs ds ≡ true → among ds c ≡ false → among cs c ≡ false
not_within [] ds c w h = refl
not_within (d ∷ cs) ds c w h =
    let p = and_parts (among ds d) (within cs ds) w in
    elim (cases_Bool (c == d)) [
      | inl e ↦ true_is_not_false (among ds c) (rw (eqb-true c d e) p.0) h
      | inr e ↦ rw e (not_within cs ds c p.1 h)
    ]

pub line_byte : (b : ℕ) → among line_bytes (class_of b) ≡ not (class_of b == 6)
line_byte b = search (rules, cases_Bool, eqb-true, if_false, in_line)
