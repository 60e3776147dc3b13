-- Where each part of a form has a spelling, a form is begun exactly by the fronts of its spellings.
use Rattle.cam_base.proofs.Common.{As, Begins, Begun, Bool, Each, Form, Give, List, Many, Meaning, Nested, One, Or, Spelled, Spells, Starts, Then, [], among, and_parts, ap, append-nil, append_assoc, cases_Bool, deep, false, inl, inr, or_cases, refl}
use Rattle.cam_base.proofs.Common.{subst, suc, sym, true, zero, ℕ, ◌&&◌, ◌++◌, ◌↔◌, ◌∙◌, ◌∷◌, ◌≡◌}
use Rattle.cam_base.specs.Spellable.{has_sample, has_spelling, parts_have_spellings}
use Rattle.cam_base.proofs.TerminalCodes.{if_false}
use Rattle.cam_base.proofs.Depth.{spells_up}
use Rattle.cam_base.proofs.GrammarFronts.{spelling_front}

sample : {T : Type 0} (code : T → ℕ) (cs : List ℕ) (ts : List T) → has_sample code ts cs ≡ true
    → (t : T) × (among cs (code t) ≡ true)
sample code cs [] e = absurd cc
sample code cs (t ∷ ts) e = elim (cases_Bool (among cs (code t))) [
  | inl h ↦ (t, h)
  | inr h ↦ sample code cs ts (sym (if_false (among cs (code t)) true (has_sample code ts cs) h) ∙ e)
]

-- one value more
each_last : {A T : Type 0} (P : A → List T → Type 0) (xs : List A) (x : A) (a b : List T) → Each P xs a → P x b
    → Each P (xs ++ x ∷ []) (a ++ b)
each_last P [] x a b e p = (b, [], ap (λ z. z ++ b) e ∙ sym (append-nil b), p, refl)
each_last P (y ∷ ys) x a b e p = (e.0, e.1 ++ b, ap (λ z. z ++ b) e.2 ∙ append_assoc e.0 e.1 b, e.3, each_last P ys x e.1 b e.4 p)

module _ {T V : Type 0} (code : T → ℕ) (samples : List T) (nested : Bool) where
  module _ (m : Meaning T V) (some : nested ≡ true → (v : V) × (ts : List T) × m.spells v ts) where
    -- a spelling of the form
    spelling : {A : Type 0} (f : Form T V A) → has_spelling code samples nested f ≡ true
        → (x : A) × (ts : List T) × Spells code m f x ts
    spelling (Give y) e = (y, [], (refl, refl))
    spelling (One cs) e = let s = sample code cs samples e in (s.0, s.0 ∷ [], (s.1, refl))
    spelling (Then f g) e =
        let p = and_parts (has_spelling code samples nested f) (has_spelling code samples nested g) e in
        let s = spelling f p.0 in
        let s' = spelling g p.1 in
        ((s.0, s'.0), s.1 ++ s'.1, (s.1, s'.1, refl, s.2, s'.2))
    spelling (Or f g) e = elim (or_cases (has_spelling code samples nested f) (has_spelling code samples nested g) e) [
      | inl p ↦ let s = spelling f p in (s.0, s.1, inl s.2)
      | inr p ↦ let s = spelling g p in (s.0, s.1, inr s.2)
    ]
    spelling (Many f) e = ([], [], refl)
    spelling (As h f) e = let s = spelling f e in (h s.0, s.1, (s.0, refl, s.2))
    spelling (Starts cs f) e = spelling f e
    spelling Nested e = some e

  module _ (m m' : Meaning T V) (up : (v : V) (ts : List T) → m.spells v ts → m'.spells v ts) (some : nested ≡ true
      → (v : V) × (ts : List T) × m'.spells v ts)
      (end : nested ≡ true → (ts : List T) → m.begins ts → (v : V) × (more : List T) × m'.spells v (ts ++ more)) where
    -- what begins the form goes on to a spelling
    completed : {A : Type 0} (f : Form T V A) → parts_have_spellings code samples nested f ≡ true → (ts : List T)
        → Begins code m f ts → (x : A) × (more : List T) × Spells code m' f x (ts ++ more)
    completed (Give y) e ts b = (y, [], (refl, append-nil ts ∙ b))
    completed (One cs) e ts (inl b) = let s = sample code cs samples e in (s.0, s.0 ∷ [], (s.1, ap (λ z. z ++ s.0 ∷ []) b))
    completed (One cs) e ts (inr b) = (b.0, [], (b.1, append-nil ts ∙ b.2))
    completed (Then f g) e ts (inl b) =
        let p = and_parts (parts_have_spellings code samples nested f) (parts_have_spellings code samples nested g
        && has_spelling code samples nested g) e in
        let q = and_parts (parts_have_spellings code samples nested g) (has_spelling code samples nested g) p.1 in
        let s = completed f p.0 ts b in
        let s' = spelling m' some g q.1 in
        ((s.0, s'.0), s.1 ++ s'.1, (ts ++ s.1, s'.1, sym (append_assoc ts s.1 s'.1), s.2, s'.2))
    completed (Then f g) e ts (inr b) =
        let p = and_parts (parts_have_spellings code samples nested f) (parts_have_spellings code samples nested g
        && has_spelling code samples nested g) e in
        let q = and_parts (parts_have_spellings code samples nested g) (has_spelling code samples nested g) p.1 in
        let s = completed g q.0 b.2 b.5 in (
          (b.0, s.0),
          s.1,
          (
            b.1,
            b.2 ++ s.1,
            ap (λ (z : List T). z ++ s.1) b.3 ∙ append_assoc b.1 b.2 s.1,
            spells_up code m m' up f
                b.0 b.1 b.4,
            s.2,
          ),
        )
    completed (Or f g) e ts (inl b) =
        let p = and_parts (parts_have_spellings code samples nested f) (parts_have_spellings code samples nested g) e in
        let s = completed f p.0 ts b in (s.0, s.1, inl s.2)
    completed (Or f g) e ts (inr b) =
        let p = and_parts (parts_have_spellings code samples nested f) (parts_have_spellings code samples nested g) e in
        let s = completed g p.1 ts b in (s.0, s.1, inr s.2)
    completed (Many f) e ts b =
        let s = completed f e b.2 b.5 in
        let all = each_last (Spells code m' f) b.0 s.0 b.1 (b.2 ++ s.1) (spells_up code m m' up (Many f) b.0 b.1 b.4) s.2 in (
          b.0 ++ s.0 ∷ [],
          s.1,
          subst (Each (Spells code m' f) (b.0 ++ s.0 ∷ [])) (sym (append_assoc b.1 b.2 s.1)
              ∙ ap (λ (z : List T). z ++ s.1) (sym b.3)) all,
        )
    completed (As h f) e ts b = let s = completed f e ts b in (h s.0, s.1, (s.0, refl, s.2))
    completed (Starts cs f) e ts b = completed f e ts b
    completed Nested e ts b = end e ts b

-- what is asked of the line that may stand within itself: it has a spelling that doesn't nest, and so does each part
pub record IsSpellable {T V : Type 0} (code : T → ℕ) (samples : List T) (line : Form T V V) : Type 1 where
  pub some : has_spelling code samples false line ≡ true
  pub parts : parts_have_spellings code samples true line ≡ true

module _ {T V : Type 0} (code : T → ℕ) (samples : List T) (nested : Bool) (line : Form T V V) (is : nested ≡ true
    → IsSpellable code samples line) where
  line_some : (n : ℕ) → nested ≡ true → (v : V) × (ts : List T) × (deep code line (suc n)).spells v ts
  line_some n e = spelling code samples false (deep code line n) (λ h. absurd cc) line (is e).some

  step_up : (n : ℕ) (v : V) (ts : List T) → (deep code line n).spells v ts → (deep code line (suc n)).spells v ts
  step_up zero v ts s = absurd s
  step_up (suc n) v ts s = spells_up code (deep code line n) (deep code line (suc n)) (step_up n) line v ts s

  line_completed : (n : ℕ) → nested ≡ true → (ts : List T) → (deep code line n).begins ts
      → (v : V) × (more : List T) × (deep code line (suc n)).spells v (ts ++ more)
  line_completed zero e ts b = let s = line_some zero e in
      (s.0, s.1, subst (λ (z : List T). (deep code line 1).spells s.0 z) (ap (λ (z : List T). z ++ s.1) (sym b)) s.2)
  line_completed (suc n) e ts b = completed code samples true (deep code line n) (deep code line (suc n)) (step_up n)
      (λ h. line_some n e) (λ h us c. line_completed n e us c) line (is e).parts ts b

  module _ {A : Type 0} (f : Form T V A) (parts : parts_have_spellings code samples nested f ≡ true) where
    -- what begins the form goes on to a spelling
    pub begun_goes_on : (ts : List T) → Begun code line f ts → (x : A) × (more : List T) × Spelled code line f x (ts ++ more)
    begun_goes_on ts b =
        let s = completed code samples nested (deep code line b.0) (deep code line (suc b.0)) (step_up b.0) (line_some b.0)
        (line_completed b.0) f parts ts b.1 in
        (s.0, s.1, (suc b.0, s.2))

    -- a form is begun exactly by the fronts of its spellings
    pub begun_is_front : (ts : List T) → Begun code line f ts ↔ ((x : A) × (more : List T) × Spelled code line f x (ts ++ more))
    begun_is_front ts = (begun_goes_on ts, λ s. spelling_front code line f s.0 ts s.1 s.2)
