-- A word is one keyword at most: the words of two keywords differ.
use Rattle.adl_lexer.proofs.Common.{Keyword, List, None, Option, Some, [], all_keywords, ap, bytes_eq, bytes_eq-Decides, cases_Bool, false, if_false, if_true, inl, inr, named_by, refl, spelling, subst, sym, true, true_is_not_false, ℕ, ◌↔◌, ◌∙◌, ◌∷◌}
use Rattle.adl_lexer.proofs.Common.{rules, ◌≡◌}
use Rattle.cam_base.specs.declared.token.Keyword.TheVariants as keys
use Rattle.adl_lexer.specs.Candidates.{candidate}
use Rattle.adl_lexer.specs.Keywords.{keyword_of}

-- the keyword that is found has this word
found : (ks : List Keyword) (word : List ℕ) (k : Keyword) → named_by ks word ≡ Some k → bytes_eq (spelling k) word ≡ true
found [] word k e = absurd cc
found (j ∷ ks) word k e = elim (cases_Bool (bytes_eq (spelling j) word)) [
  | inl h ↦ let same : Some j ≡ Some k = sym (if_true (bytes_eq (spelling j) word) (Some j) (named_by ks word) h) ∙ e in
      subst (λ (i : Keyword). bytes_eq (spelling i) word ≡ true) (let p : j ≡ k = cc in p) h
  | inr h ↦ found ks word k (sym (if_false (bytes_eq (spelling j) word) (Some j) (named_by ks word) h) ∙ e)
]

pub own_word : (k : Keyword) → keyword_of (spelling k) ≡ Some k
unfolding keyword_of
own_word keys.KAssembly = refl
own_word keys.KAttribute = refl
own_word keys.KBinarySemaphore = refl
own_word keys.KComponent = refl
own_word keys.KComposition = refl
own_word keys.KConfiguration = refl
own_word keys.KConnection = refl
own_word keys.KConsumes = refl
own_word keys.KControl = refl
own_word keys.KDataport = refl
own_word keys.KEmits = refl
own_word keys.KExport = refl
own_word keys.KFrom = refl
own_word keys.KGroup = refl
own_word keys.KHardware = refl
own_word keys.KHas = refl
own_word keys.KImport = refl
own_word keys.KIn = refl
own_word keys.KInclude = refl
own_word keys.KInout = refl
own_word keys.KMaybe = refl
own_word keys.KMutex = refl
own_word keys.KOut = refl
own_word keys.KProcedure = refl
own_word keys.KProvides = refl
own_word keys.KRefin = refl
own_word keys.KSemaphore = refl
own_word keys.KTo = refl
own_word keys.KUses = refl

pub keyword_is : (word : List ℕ) (k : Keyword) → (keyword_of word ≡ Some k) ↔ (word ≡ spelling k)
unfolding keyword_of
keyword_is word k = (
  λ e. sym ((bytes_eq-Decides (spelling k) word).0 (found all_keywords word k e)),
  λ e. ap keyword_of e
      ∙ own_word k,
)

-- a word that no keyword has is none, and the other way round
pub no_keyword : (word : List ℕ) → (keyword_of word ≡ None) ↔ ((k : Keyword) → word ≡ spelling k → ⊥)
no_keyword word = (λ e k w. some_keyword (keyword_is word k) e w, λ h. go (keyword_of word) refl h)
  where
    some_keyword : {k : Keyword} → ((keyword_of word ≡ Some k) ↔ (word ≡ spelling k)) → keyword_of word ≡ None
        → word ≡ spelling k → ⊥
    some_keyword {k = k} is e w = let f : Some k ≡ None = sym (is.1 w) ∙ e in absurd cc

    go : (o : Option Keyword) → keyword_of word ≡ o → ((k : Keyword) → word ≡ spelling k → ⊥) → o ≡ None
    go None e h = refl
    go (Some k) e h = absurd (h k ((keyword_is word k).0 e))

-- ---- the look-up by one candidate

own_candidate : (k : Keyword) → candidate (spelling k) ≡ Some k
own_candidate keys.KAssembly = refl
own_candidate keys.KAttribute = refl
own_candidate keys.KBinarySemaphore = refl
own_candidate keys.KComponent = refl
own_candidate keys.KComposition = refl
own_candidate keys.KConfiguration = refl
own_candidate keys.KConnection = refl
own_candidate keys.KConsumes = refl
own_candidate keys.KControl = refl
own_candidate keys.KDataport = refl
own_candidate keys.KEmits = refl
own_candidate keys.KExport = refl
own_candidate keys.KFrom = refl
own_candidate keys.KGroup = refl
own_candidate keys.KHardware = refl
own_candidate keys.KHas = refl
own_candidate keys.KImport = refl
own_candidate keys.KIn = refl
own_candidate keys.KInclude = refl
own_candidate keys.KInout = refl
own_candidate keys.KMaybe = refl
own_candidate keys.KMutex = refl
own_candidate keys.KOut = refl
own_candidate keys.KProcedure = refl
own_candidate keys.KProvides = refl
own_candidate keys.KRefin = refl
own_candidate keys.KSemaphore = refl
own_candidate keys.KTo = refl
own_candidate keys.KUses = refl

-- the word of a keyword is that keyword
pub is_found : (word : List ℕ) (k : Keyword) → bytes_eq (spelling k) word ≡ true → keyword_of word ≡ Some k
is_found word k h = (keyword_is word k).1 (sym ((bytes_eq-Decides (spelling k) word).0 h))

-- a keyword is its own candidate
its_candidate : (word : List ℕ) (k : Keyword) → keyword_of word ≡ Some k → candidate word ≡ Some k
its_candidate word k e = ap candidate ((keyword_is word k).0 e) ∙ own_candidate k

-- a word without a candidate is no keyword
pub is_no_candidate : (word : List ℕ) → candidate word ≡ None → keyword_of word ≡ None
is_no_candidate word c = search (rules, its_candidate)

-- a word that isn't that of its candidate is no keyword
pub is_other_word : (word : List ℕ) (k : Keyword) → candidate word ≡ Some k → bytes_eq (spelling k) word ≡ false
    → keyword_of word ≡ None
is_other_word word k c h = go (keyword_of word) refl
  where
    go : (o : Option Keyword) → keyword_of word ≡ o → o ≡ None
    go None e = refl
    go (Some j) e =
        let f : Some j ≡ Some k = sym (its_candidate word j e) ∙ c in
        let same : j ≡ k = cc in
        true_is_not_false (bytes_eq (spelling k) word) ((bytes_eq-Decides (spelling k) word).1 (ap spelling (sym same)
        ∙ sym ((keyword_is word j).0 e))) h

pub ruleset candidates = (is_found, is_no_candidate, is_other_word)
