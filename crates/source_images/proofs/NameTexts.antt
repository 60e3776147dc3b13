-- Names of types are text, and so is the folder of a file.
use Rattle.source_images.proofs.Common.{IsTrue, IsUtf8, List, [], and_parts, ap, arith, common_steps, cond, eq-eqb, false, folder_of, get_or, is_slash, length, list_all, list_any, nat_tests, ne_eqb, or-true, refl, slice_range, suc, sym, take, true}
use Rattle.source_images.proofs.Common.{true≢false, zero, ℕ, ◌+◌, ◌<◌, ◌||◌, ◌∙◌, ◌∷◌, ◌≡◌, ◌≢◌}
use Rattle.std.proofs.lemmas.Str.{IsUtf8-from_ascii}
use Rattle.cam_base.specs.Names.{is_letter, is_name, is_word_byte}

letter_small : (b : ℕ) → is_letter b ≡ true → b < 128
letter_small b e = grind (arith, nat_tests)

word_small : (b : ℕ) → is_word_byte b ≡ true → b < 128
word_small b e = grind (arith, nat_tests)

words_small : (bs : List ℕ) → list_all is_word_byte bs ≡ true → (i : ℕ) → get_or bs i 0 < 128
words_small [] e i = omega arith
words_small (b ∷ bs) e zero = word_small b (and_parts (is_word_byte b) (list_all is_word_byte bs) e).0
words_small (b ∷ bs) e (suc i) = words_small bs (and_parts (is_word_byte b) (list_all is_word_byte bs) e).1 i

name_small : (name : List ℕ) → is_name name ≡ true → (i : ℕ) → get_or name i 0 < 128
name_small [] e i = absurd (true≢false (sym e))
name_small (b ∷ bs) e zero = letter_small b (and_parts (is_letter b) _ (and_parts _ _ e).1).0
name_small (b ∷ bs) e (suc i) = words_small bs (and_parts (is_letter b) _ (and_parts _ _ e).1).1 i

pub name_utf8 : (name : List ℕ) → IsTrue (is_name name) → IsUtf8 name
name_utf8 name e = IsUtf8-from_ascii name (name_small name e)

-- ---- folders

no_slash : (xs : List ℕ) → ((i : ℕ) → i < length xs → get_or xs i 0 ≢ 47) → list_any is_slash xs ≡ false
no_slash [] h = refl
no_slash (x ∷ xs) h = ap (λ b. b || list_any is_slash xs) (ne_eqb x 47 (h 0 (omega arith)))
    ∙ no_slash xs (λ i lt. h (suc i) (omega arith))

-- of a name without a slash
pub folder_of-none : (xs : List ℕ) → ((i : ℕ) → i < length xs → get_or xs i 0 ≢ 47) → folder_of xs ≡ []
folder_of-none [] h = refl
folder_of-none (x ∷ xs) h = ap (λ b. cond b (x ∷ folder_of xs) []) (no_slash (x ∷ xs) h)

some_slash : (xs : List ℕ) (k : ℕ) → k < length xs → get_or xs k 0 ≡ 47 → list_any is_slash xs ≡ true
some_slash [] k lt e = absurd (omega arith)
some_slash (x ∷ xs) zero lt e = ap (λ b. b || list_any is_slash xs) (eq-eqb x 47 e)
some_slash (x ∷ xs) (suc k) lt e = ap (λ b. is_slash x || b) (some_slash xs k (omega arith) e) ∙ or-true (is_slash x)

-- of a name whose last slash stands there
pub folder_of-last : (xs : List ℕ) (k : ℕ) → k < length xs → get_or xs k 0 ≡ 47
    → ((i : ℕ) → k < i → i < length xs → get_or xs i 0 ≢ 47) → folder_of xs ≡ take (suc k) xs
folder_of-last [] k lt e last = absurd (omega arith)
folder_of-last (x ∷ xs) zero lt e last =
    ap (λ b. cond b (x ∷ folder_of xs) []) (some_slash (x ∷ xs) 0 lt e)
    ∙ ap (λ l. x ∷ l) (folder_of-none xs (λ i h. last (suc i) (omega arith) (omega arith)))
folder_of-last (x ∷ xs) (suc k) lt e last =
    ap (λ b. cond b (x ∷ folder_of xs) []) (some_slash (x ∷ xs) (suc k) lt e)
    ∙ ap (λ l. x ∷ l) (folder_of-last xs k (omega arith) e (λ i h j. last (suc i) (omega arith) (omega arith)))

front_is : (xs : List ℕ) (k : ℕ) → slice_range xs 0 (k + 1) ≡ take (suc k) xs
front_is xs k = grind (arith, common_steps)

-- the front of a name up to its last slash
pub folder_found : (xs out : List ℕ) (k : ℕ) → out ≡ slice_range xs 0 (k + 1) → (k < length xs) × (get_or xs k 0 ≡ 47)
    × ((i : ℕ) → k < i → i < length xs → get_or xs i 0 ≢ 47) → out ≡ folder_of xs
folder_found xs out k e (lt, is, last) = e ∙ front_is xs k ∙ sym (folder_of-last xs k lt is last)
