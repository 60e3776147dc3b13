-- The fields of a line that a space parts.
use Rattle.step_text.proofs.Common.{Bool, List, [], and_parts, ap, append_assoc, arith, false, fields, is_digit, is_word_byte, list_all, nat_tests, not, not-true, parts, refl, sym, true, ℕ, ◌++◌, ◌+◌, ◌==◌, ◌∙◌, ◌∷◌, ◌≡◌}
use Rattle.std.specs.Prelude.{◌&&◌}
use Rattle.std.proofs.lemmas.List.Folds.{list_all-append}
use Rattle.cam_base.proofs.Orders.{same_itself}

-- ---- bytes that neither part fields nor end lines

abbrev pub is_plain_byte : ℕ → Bool
is_plain_byte b = not (b == 32) && not (b == 10)

abbrev pub is_plain : List ℕ → Bool
is_plain bs = list_all is_plain_byte bs

plain_digit : (b : ℕ) → is_digit b ≡ true → is_plain_byte b ≡ true
plain_digit b h = grind (arith, nat_tests)

plain_letter : (b : ℕ) → is_word_byte b ≡ true → is_plain_byte b ≡ true
plain_letter b h = grind (arith, nat_tests)

pub plain_digits : (bs : List ℕ) → list_all is_digit bs ≡ true → is_plain bs ≡ true
plain_digits [] h = refl
plain_digits (b ∷ bs) h = let k = and_parts (is_digit b) (list_all is_digit bs) h in
    rw (plain_digit b k.0, plain_digits bs k.1) refl

pub plain_word : (bs : List ℕ) → list_all is_word_byte bs ≡ true → is_plain bs ≡ true
plain_word [] h = refl
plain_word (b ∷ bs) h = let k = and_parts (is_word_byte b) (list_all is_word_byte bs) h in
    rw (plain_letter b k.0, plain_word bs k.1) refl

-- ---- a list that a byte parts

abbrev pub lacks : ℕ → List ℕ → Bool
lacks separator bs = list_all (λ b. not (b == separator)) bs

pub split_front : (separator : ℕ) (xs ys : List ℕ) → lacks separator xs ≡ true → parts separator (xs ++ separator ∷ ys) ≡ xs
    ∷ parts separator ys
split_front separator [] ys h = rw (same_itself separator) refl
split_front separator (x ∷ xs) ys h =
    let k = and_parts (not (x == separator)) (lacks separator xs) h in
    let no_it : x == separator ≡ false = not-true (x == separator) k.0 in
    rw (no_it, split_front separator xs ys k.1) refl

split_none : (separator : ℕ) (xs : List ℕ) → lacks separator xs ≡ true → parts separator xs ≡ xs ∷ []
split_none separator [] h = refl
split_none separator (x ∷ xs) h =
    let k = and_parts (not (x == separator)) (lacks separator xs) h in
    let no_it : x == separator ≡ false = not-true (x == separator) k.0 in
    rw (no_it, split_none separator xs k.1) refl

plain_lacks_space : (bs : List ℕ) → is_plain bs ≡ true → lacks 32 bs ≡ true
plain_lacks_space [] h = refl
plain_lacks_space (b ∷ bs) h =
    let k = and_parts (is_plain_byte b) (is_plain bs) h in
    let n = and_parts (not (b == 32)) (not (b == 10)) k.0 in
    rw (n.0, plain_lacks_space bs k.1) refl

plain_lacks_feed : (bs : List ℕ) → is_plain bs ≡ true → lacks 10 bs ≡ true
plain_lacks_feed [] h = refl
plain_lacks_feed (b ∷ bs) h =
    let k = and_parts (is_plain_byte b) (is_plain bs) h in
    let n = and_parts (not (b == 32)) (not (b == 10)) k.0 in
    rw (n.1, plain_lacks_feed bs k.1) refl

-- ---- fields with one space between two of them, and so with a line feed at the end

abbrev pub joined : List (List ℕ) → List ℕ
joined [] = []
joined (f ∷ []) = f
joined (f ∷ g ∷ fs) = f ++ 32 ∷ joined (g ∷ fs)

abbrev pub ended : List (List ℕ) → List ℕ
ended [] = 10 ∷ []
ended (f ∷ []) = f ++ 10 ∷ []
ended (f ∷ g ∷ fs) = f ++ 32 ∷ ended (g ∷ fs)

abbrev pub are_plain : List (List ℕ) → Bool
are_plain fs = list_all is_plain fs

ended_joined : (f : List ℕ) (fs : List (List ℕ)) (rest : List ℕ) → ended (f ∷ fs) ++ rest ≡ joined (f ∷ fs) ++ 10 ∷ rest
ended_joined f [] rest = append_assoc f (10 ∷ []) rest
ended_joined f (g ∷ fs) rest =
    append_assoc f (32 ∷ ended (g ∷ fs)) rest
    ∙ (ap (λ (xs : List ℕ). f ++ 32 ∷ xs) (ended_joined g fs rest) ∙ sym (append_assoc f (32 ∷ joined (g ∷ fs)) (10 ∷ rest)))

joined_lacks : (f : List ℕ) (fs : List (List ℕ)) → are_plain (f ∷ fs) ≡ true → lacks 10 (joined (f ∷ fs)) ≡ true
joined_lacks f [] h = plain_lacks_feed f (and_parts (is_plain f) true h).0
joined_lacks f (g ∷ fs) h =
    let k = and_parts (is_plain f) (are_plain (g ∷ fs)) h in
    list_all-append (λ (b : ℕ). not (b == 10)) f (32 ∷ joined (g ∷ fs)) ∙ rw (plain_lacks_feed f k.0, joined_lacks g fs k.1) refl

pub line_parts : (f : List ℕ) (fs : List (List ℕ)) (rest : List ℕ) → are_plain (f ∷ fs) ≡ true
    → parts 10 (ended (f ∷ fs) ++ rest) ≡ joined (f ∷ fs) ∷ parts 10 rest
line_parts f fs rest h = ap (λ (xs : List ℕ). parts 10 xs) (ended_joined f fs rest) ∙ split_front 10 (joined (f ∷ fs)) rest
    (joined_lacks f fs h)

pub fields_joined : (f : List ℕ) (fs : List (List ℕ)) → are_plain (f ∷ fs) ≡ true → fields (joined (f ∷ fs)) ≡ f ∷ fs
fields_joined f [] h = split_none 32 f (plain_lacks_space f (and_parts (is_plain f) true h).0)
fields_joined f (g ∷ fs) h =
    let k = and_parts (is_plain f) (are_plain (g ∷ fs)) h in
    split_front 32 f (joined (g ∷ fs)) (plain_lacks_space f k.0) ∙ ap (λ (xs : List (List ℕ)). f ∷ xs) (fields_joined g fs k.1)
