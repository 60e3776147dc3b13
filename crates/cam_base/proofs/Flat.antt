-- A grammar in which no line stands within itself: nothing in it nests too deep.
use Rattle.cam_base.proofs.Common.{As, Err, Form, Give, IsTooDeep, List, Many, Nested, Ok, One, Or, Reader, Starts, Stop, Then, Unexpected, [], both, cases_Bool, deep, either, first, inl, inr, length, mapped, one, read, refl, starts}
use Rattle.cam_base.proofs.Common.{rules, suc, sym, times, whole, zero, ℕ, ◌++◌, ◌>>=◌, ◌∙◌, ◌∷◌, ◌≡◌}
use Rattle.cam_base.specs.Reading.{many, read_deep}
use Rattle.cam_base.proofs.TerminalCodes.{if_true, if_false}
use Rattle.cam_base.specs.Flat.{never}
use Rattle.cam_base.proofs.Depth.{begins_up}
use Rattle.cam_base.proofs.Laws.{bind_err, ok_is_not_err, why_is}

abbrev IsFlat : {T A : Type 0} → Reader T A → Type 0
IsFlat {T = T} r = (ts : List T) (e : Stop) → r ts ≡ Err e → e.why ≡ Unexpected

module _ {T : Type 0} (code : T → ℕ) where
  one_flat : (cs : List ℕ) → IsFlat (one code cs)
  one_flat cs [] e h = why_is {A = T × List T} _ e h
  one_flat cs (t ∷ ts) e h = search (rules, cases_Bool, ok_is_not_err, if_true, why_is, if_false)

  both_flat : {A B : Type 0} (r : Reader T A) (q : Reader T B) → IsFlat r → IsFlat q → IsFlat (both code r q)
  both_flat r q p p' ts e h = search (rules, bind_err, ok_is_not_err)

  either_flat : {A : Type 0} (cs : List ℕ) (r q : Reader T A) → IsFlat r → IsFlat q → IsFlat (either code cs r q)
  either_flat cs r q p p' ts e h = search (rules, cases_Bool, if_true, if_false)

  times_flat : {A : Type 0} (cs : List ℕ) (r : Reader T A) → IsFlat r → (n : ℕ) → IsFlat (times code n cs r)
  times_flat cs r p zero ts e h = ok_is_not_err ([], ts) e h
  times_flat cs r p (suc n) ts e h = elim (cases_Bool (starts code cs ts)) [
    | inl g ↦ elim (bind_err (r ts) (λ x. times code n cs r x.1 >>= λ xs. Ok (x.0 ∷ xs.0, xs.1)) e
        (sym (if_true (starts code cs ts) _ _ g) ∙ h)) [
          | inl k ↦ p ts e k
          | inr b ↦ elim (bind_err (times code n cs r b.0.1) (λ xs. Ok (b.0.0 ∷ xs.0, xs.1)) e b.2) [
            | inl k ↦
                times_flat cs r p n b.0.1 e k
            | inr c ↦ ok_is_not_err (b.0.0 ∷ c.0.0, c.0.1) e c.2
          ]
        ]
    | inr g ↦ ok_is_not_err ([], ts) e (sym (if_false (starts code cs ts) _ (Ok ([], ts)) g) ∙ h)
  ]

  many_flat : {A : Type 0} (cs : List ℕ) (r : Reader T A) → IsFlat r → IsFlat (many code cs r)
  unfolding many
  many_flat cs r p ts e h = times_flat cs r p (length ts) ts e h

  mapped_flat : {A B : Type 0} (f : A → B) (r : Reader T A) → IsFlat r → IsFlat (mapped code f r)
  mapped_flat f r p ts e h = search (rules, bind_err, ok_is_not_err)

module _ {T V : Type 0} (code : T → ℕ) (deeper : Reader T V) (flat : IsFlat deeper) where
  flat_read : {A : Type 0} (f : Form T V A) → IsFlat (read code [] deeper f)
  flat_read (Give x) = λ ts e h. ok_is_not_err (x, ts) e h
  flat_read (One cs) = one_flat code cs
  flat_read (Then f g) = both_flat code (read code [] deeper f) (read code [] deeper g) (flat_read f) (flat_read g)
  flat_read (Or f g) = either_flat code (first [] f) (read code [] deeper f) (read code [] deeper g) (flat_read f) (flat_read g)
  flat_read (Many f) = many_flat code (first [] f) (read code [] deeper f) (flat_read f)
  flat_read (As h f) = mapped_flat code h (read code [] deeper f) (flat_read f)
  flat_read (Starts cs f) = flat_read f
  flat_read Nested = flat

-- no line begins where none opens
deep_flat : {T V : Type 0} (code : T → ℕ) (line : Form T V V) → IsFlat (read_deep code line [] 0)
unfolding read_deep
deep_flat {T = T} {V = V} code line [] e h = why_is {A = V × List T} _ e h
deep_flat {T = T} {V = V} code line (t ∷ ts) e h = why_is {A = V × List T} _ e h

module _ {T V A : Type 0} (code : T → ℕ) (line : Form T V V) (f : Form T V A) where
  -- reading never answers too deep
  pub flat_part : (ts : List T) (e : Stop) → read code [] (read_deep code line [] 0) f ts ≡ Err e → e.why ≡ Unexpected
  flat_part ts e h = flat_read code (read_deep code line [] 0) (deep_flat code line) f ts e h

  -- nor does reading all tokens
  pub flat_whole : (ts : List T) (e : Stop) → whole (read code [] (read_deep code line [] 0) f) ts ≡ Err e → e.why ≡ Unexpected
  flat_whole ts e h = search (rules, bind_err, flat_part, ok_is_not_err, why_is)

module _ {T : Type 0} (code : T → ℕ) where
  never_spells : (n : ℕ) (v : Unit {0}) (ts : List T) → (deep code never n).spells v ts → ⊥
  never_spells zero v ts s = s
  never_spells (suc n) v ts s = let e = s.2.0 in absurd cc

  never_begins : (n : ℕ) (ts : List T) → (deep code never n).begins ts → ts ≡ []
  never_begins zero ts s = s
  never_begins (suc n) ts (inl e) = e
  never_begins (suc n) ts (inr s) = let e = s.1 in absurd cc

  never_nil : (n : ℕ) → (deep code never n).begins []
  never_nil zero = refl
  never_nil (suc n) = inl refl

  -- nothing nests too deep, at any limit
  pub never_too_deep : {A : Type 0} (f : Form T (Unit {0}) A) (limit : ℕ) (ts : List T) (left : ℕ)
      → IsTooDeep code never f limit ts left → ⊥
  never_too_deep f limit ts left p = search (rules, begins_up, never_spells, never_begins, never_nil)
