-- Words, which one space parts.
use Rattle.sect_table.proofs.Common.{AllByRecursion, Bool, List, [], and_from, and_parts, ap, arith, false, fields, filter, length, list_all, nat_lt, nat_tests, not, onto_first, or_from, parts, refl, slice_index, spaced_fields, suc}
use Rattle.sect_table.proofs.Common.{rules, true, ℕ, ◌++◌, ◌-◌, ◌<◌, ◌==◌, ◌∙◌, ◌∷◌, ◌≡◌}
use Rattle.std.proofs.lemmas.List.Folds.{list_all-append}
use Rattle.std.proofs.lemmas.List.Splits.{slice_split-cons_no, slice_split-cons_yes}

-- bytes behind the space, and from it on
abbrev pub is_clean : ℕ → Bool
is_clean b = nat_lt 32 b

abbrev pub is_shown : ℕ → Bool
is_shown b = nat_lt 31 b

-- a word
pub record Plain (w : List ℕ) : Type 0 where
  pub some : 0 < length w
  pub clean : list_all is_clean w ≡ true

-- ---- where a byte parts a text

same_byte : (c : ℕ) → (c == c) ≡ true
same_byte c = grind (arith, nat_tests)

pub split_with : (c : ℕ) (q : ℕ → Bool) → ((b : ℕ) → q b ≡ true → (b == c) ≡ false) → (xs ys : List ℕ) → list_all q xs ≡ true
    → parts c (xs ++ c ∷ ys) ≡ xs ∷ parts c ys
split_with c q apart [] ys all = slice_split-cons_yes (λ b. b == c) c ys (same_byte c)
split_with c q apart (x ∷ xs) ys all =
    let p = and_parts (q x) (list_all q xs) all in
    slice_split-cons_no (λ b. b == c) x (xs ++ c ∷ ys) (apart x p.0) ∙ ap (onto_first x) (split_with c q apart xs ys p.1)

split_whole : (c : ℕ) (q : ℕ → Bool) → ((b : ℕ) → q b ≡ true → (b == c) ≡ false) → (xs : List ℕ) → list_all q xs ≡ true
    → parts c xs ≡ xs ∷ []
split_whole c q apart [] all = refl
split_whole c q apart (x ∷ xs) all =
    let p = and_parts (q x) (list_all q xs) all in
    slice_split-cons_no (λ b. b == c) x xs (apart x p.0) ∙ ap (onto_first x) (split_whole c q apart xs p.1)

no_space : (b : ℕ) → is_clean b ≡ true → (b == 32) ≡ false
no_space b h = grind (arith, nat_tests)

-- ---- words with a space between each two

abbrev pub spaced : List ℕ → List (List ℕ) → List ℕ
spaced w [] = w
spaced w (u ∷ us) = w ++ 32 ∷ spaced u us

fields_spaced : (w : List ℕ) (us : List (List ℕ)) → Plain w → AllByRecursion Plain us → fields (spaced w us) ≡ w ∷ us
fields_spaced w [] p ps = split_whole 32 is_clean no_space w p.clean
fields_spaced w (u ∷ us) p ps = split_with 32 is_clean no_space w (spaced u us) p.clean
    ∙ ap (λ k. w ∷ k) (fields_spaced u us ps.0 ps.1)

all_kept : (ws : List (List ℕ)) → AllByRecursion Plain ws → filter (λ (f : List ℕ). not (length f == 0)) ws ≡ ws
all_kept [] h = refl
all_kept (w ∷ ws) h = let e = some_length (length w) h.0.some in rw e (ap (λ k. w ∷ k) (all_kept ws h.1))
  where
    some_length : (n : ℕ) → 0 < n → (n == 0) ≡ false
    some_length n l = grind (arith, nat_tests)

front : (w : List ℕ) (us : List (List ℕ)) → Plain w → (slice_index (spaced w us) 0 == 32) ≡ false
front [] us p = absurd (omega (arith, p.some))
front (b ∷ bs) [] p = no_space b (and_parts (is_clean b) (list_all is_clean bs) p.clean).0
front (b ∷ bs) (u ∷ us) p = no_space b (and_parts (is_clean b) (list_all is_clean bs) p.clean).0

last_cons : (x : ℕ) (xs : List ℕ) → 0 < length xs → slice_index (x ∷ xs) (length (x ∷ xs) - 1) ≡ slice_index xs (length xs - 1)
last_cons x [] h = absurd (omega arith)
last_cons x (y ∷ ys) h = let e : length (x ∷ y ∷ ys) - 1 ≡ suc (length (y ∷ ys) - 1) = omega arith in rw e refl

some_behind : (xs ys : List ℕ) (c : ℕ) → 0 < length (xs ++ c ∷ ys)
some_behind [] ys c = omega arith
some_behind (x ∷ xs) ys c = omega arith

last_behind : (xs ys : List ℕ) (c : ℕ) → 0 < length ys → slice_index (xs ++ c ∷ ys) (length (xs ++ c ∷ ys) - 1) ≡ slice_index ys
    (length ys - 1)
last_behind [] ys c h = last_cons c ys h
last_behind (x ∷ xs) ys c h = last_cons x (xs ++ c ∷ ys) (some_behind xs ys c) ∙ last_behind xs ys c h

last_clean : (w : List ℕ) → 0 < length w → list_all is_clean w ≡ true → (slice_index w (length w - 1) == 32) ≡ false
last_clean [] s h = absurd (omega arith)
last_clean (b ∷ []) s h = no_space b (and_parts (is_clean b) true h).0
last_clean (b ∷ c ∷ bs) s h =
    let e = last_cons b (c ∷ bs) (omega arith) in
    ap (λ n. n == 32) e ∙ last_clean (c ∷ bs) (omega arith) (and_parts (is_clean b) (list_all is_clean (c ∷ bs)) h).1

some_spaced : (w : List ℕ) (us : List (List ℕ)) → Plain w → 0 < length (spaced w us)
some_spaced w [] p = p.some
some_spaced w (u ∷ us) p = some_behind w (spaced u us) 32

back : (w : List ℕ) (us : List (List ℕ)) → Plain w → AllByRecursion Plain us
    → (slice_index (spaced w us) (length (spaced w us) - 1) == 32) ≡ false
back w [] p ps = last_clean w p.some p.clean
back w (u ∷ us) p ps = ap (λ n. n == 32) (last_behind w (spaced u us) 32 (some_spaced u us ps.0)) ∙ back u us ps.0 ps.1

pub spaced_read : (w : List ℕ) (us : List (List ℕ)) → Plain w → AllByRecursion Plain us → spaced_fields (spaced w us) ≡ w ∷ us
spaced_read w us p ps = search (rules, or_from, front, back, filter, fields_spaced, all_kept)

-- ---- what they show

shown_byte : (b : ℕ) → is_clean b ≡ true → is_shown b ≡ true
shown_byte b h = grind (arith, nat_tests)

clean_shown : (bs : List ℕ) → list_all is_clean bs ≡ true → list_all is_shown bs ≡ true
clean_shown [] h = refl
clean_shown (b ∷ bs) h = let p = and_parts (is_clean b) (list_all is_clean bs) h in rw (shown_byte b p.0, clean_shown bs p.1) refl

pub spaced_shown : (w : List ℕ) (us : List (List ℕ)) → Plain w → AllByRecursion Plain us → list_all is_shown (spaced w us) ≡ true
spaced_shown w [] p ps = clean_shown w p.clean
spaced_shown w (u ∷ us) p ps = list_all-append is_shown w (32 ∷ spaced u us) ∙ and_from (list_all is_shown w) _
    (clean_shown w p.clean) (spaced_shown u us ps.0 ps.1)
