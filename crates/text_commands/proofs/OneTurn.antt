-- Turns of inputs have one answer for the same contents.
use Rattle.text_commands.proofs.Common.{Answers, AreOne, Contents, Decided, Err, Fault, InputError, InputFault, IsAnswer, IsInput, IsTold, List, None, Ok, Option, Refused, Result, Some, Then, Turn, ap, rules}
use Rattle.text_commands.proofs.Common.{arith, inl, inr, length, most_bytes, refl, subst, sym, ℕ, ◌<◌, ◌∙◌, ◌≡◌, ◌≤◌}
use Rattle.std.specs.FinMap as contents
use Rattle.cam_base.specs.declared.error.Refused.TheVariants as refused

abbrev pub Alike : {B : Type 0} → (Result B InputError → Result B InputError → Type 0) → (Result B InputError → Type 0)
    → (Result B InputError → Type 0) → Type 0
Alike {B} Same Here There = (a b : Result B InputError) → IsAnswer a → IsAnswer b → Here a → There b → Same a b

-- an answer that is an error, as one of another kind
error_of : (A : Type 0) {B : Type 0} (r : Result B InputError) (e : InputError) → r ≡ Err e → IsAnswer r
    → IsAnswer {A = A} (Err e)
error_of A r (Fault fault file) is s = tt
error_of A r _ is s = absurd (subst (λ z. IsAnswer z) is s)

module _ {A B : Type 0} (Same : Result B InputError → Result B InputError → Type 0) (same_error : (e : InputError)
    → Same (Err e) (Err e)) where
  -- one thing first, and what follows it
  pub then_alike : (first first' : Result A InputError → Type 0) (rest rest' : A → Result B InputError → Type 0)
      → AreOne first first'
      → ((x : A) → Alike Same (rest x) (rest' x)) → Alike Same (Then first rest) (Then first' rest')
  then_alike first first' rest rest' one more a b s t (inl (x, f, r)) (inl (y, g, q)) =
      let e = one (Ok x) (Ok y) tt tt f g in
      let same : x ≡ y = cc in
      more x a b s t r (subst (λ z. rest' z b) (sym same) q)
  then_alike first first' rest rest' one more a b s t (inl (x, f, r)) (inr (e, g, is)) =
      let i : IsAnswer {A = A} (Err e) = error_of A b e is t in
      let h = one (Ok x) (Err e) tt i f g in
      absurd cc
  then_alike first first' rest rest' one more a b s t (inr (e, f, is)) (inl (y, g, q)) =
      let i : IsAnswer {A = A} (Err e) = error_of A a e is s in
      let h = one (Err e) (Ok y) i tt f g in
      absurd cc
  then_alike first first' rest rest' one more a b s t (inr (d, f, is)) (inr (e, g, be)) =
      let h = one (Err d) (Err e) (error_of A a d is s) (error_of A b e be t) f g in
      let same : d ≡ e = cc in
      subst (λ z. Same z b) (sym is)
      (subst (λ z. Same (Err d) z) (sym be) (subst (λ z. Same (Err d) (Err z)) same (same_error d)))

-- what was read comes in another call too, and what follows it
pub then_goes : {A B : Type 0} (first first' : Result A InputError → Type 0) (rest : A → Result B InputError → Type 0)
    → AreOne first first' → (x : A) → first (Ok x) → (b : Result B InputError) → IsAnswer b
    → Then first' rest b → rest x b
then_goes first first' rest one x f b t (inl (y, g, q)) =
    let e = one (Ok x) (Ok y) tt tt f g in
    let same : x ≡ y = cc in
    subst (λ z. rest z b) (sym same) q
then_goes {A = A} first first' rest one x f b t (inr (e, g, is)) =
    let i : IsAnswer {A = A} (Err e) = error_of A b e is t in
    let h = one (Ok x) (Err e) tt i f g in
    absurd cc

pub then_one : {A B : Type 0} (first first' : Result A InputError → Type 0) (rest rest' : A → Result B InputError → Type 0)
    → AreOne first first'
    → ((x : A) → AreOne (rest x) (rest' x)) → AreOne (Then first rest) (Then first' rest')
then_one first first' rest rest' one more = then_alike (λ a b. a ≡ b) (λ e. refl) first first' rest rest' one more

-- an answer that is there
pub answers_one : {A : Type 0} (Says : A → Type 0) → ((x y : A) → Says x → Says y → x ≡ y) → AreOne (Answers Says) (Answers Says)
answers_one Says one (Ok x) (Ok y) s t h k = ap (λ z. Ok z) (one x y h k)
answers_one Says one _ _ s t h k = absurd (search rules)

-- ---- inputs

-- what a reader may answer of the same bytes is one
pub record ReadsOne {A E : Type 0} (reads : Result A (Refused E) → Type 0) : Type 0 where
  pub value : (x y : A) → reads (Ok x) → reads (Ok y) → x ≡ y
  pub fault : (d e : E) → reads (Err (refused.Fault d)) → reads (Err (refused.Fault e)) → d ≡ e
  pub either : (x : A) (e : E) → reads (Ok x) → reads (Err (refused.Fault e)) → ⊥

pub told_one : {A E : Type 0} (tell : E → InputFault) (file : List ℕ) (reads : Result A (Refused E) → Type 0) → ReadsOne reads
    → AreOne (IsTold tell file reads) (IsTold tell file reads)
told_one tell file reads one (Ok x) (Ok y) s t h k = ap (λ z. Ok z) (one.value x y h k)
told_one tell file reads one (Ok x) (Err (Fault g l)) s t h k = absurd (one.either x k.1.0 h k.1.1)
told_one tell file reads one (Err (Fault f l)) (Ok y) s t h k = absurd (one.either y h.1.0 k h.1.1)
told_one tell file reads one (Err (Fault f l)) (Err (Fault g n)) s t h k = search (rules)
told_one tell file reads one _ _ s t h k = absurd (search rules)

-- bytes and a fault of the same file
apart : (m : Contents) (old new later last : List ℕ → ℕ) (file bytes : List ℕ) (f : InputFault) (name : List ℕ)
    → IsInput m old new file (Ok bytes) → IsInput m later last file (Err (Fault f name)) → ⊥
apart m old new later last file bytes f name h (is, inl (e, none)) = search (rules)
apart m old new later last file bytes f name h (is, inr (e, (more, there, long))) = search (rules)

module _ (m : Contents) (old new later last : List ℕ → ℕ) (file : List ℕ) where
  faults_one : (f g : InputFault) (name other : List ℕ) → IsInput m old new file (Err (Fault f name))
      → IsInput m later last file (Err (Fault g other)) → (name ≡ other) × (f ≡ g)
  faults_one f g name other (is, inl (d, none)) (be, inl (e, lacks)) = (is ∙ sym be, d ∙ sym e)
  faults_one f g name other (is, inl (d, none)) (be, inr (e, (bytes, there, long))) = search (rules)
  faults_one f g name other (is, inr (d, (bytes, there, long))) (be, inl (e, none)) = search (rules)
  faults_one f g name other (is, inr (d, long)) (be, inr (e, longer)) = (is ∙ sym be, d ∙ sym e)

  pub input_one : AreOne (IsInput m old new file) (IsInput m later last file)
  input_one (Ok x) (Ok y) s t h k = search (rules)
  input_one (Ok x) (Err (Fault g n)) s t h k = absurd (apart m old new later last file x g n h k)
  input_one (Err (Fault f l)) (Ok y) s t h k = absurd (apart m later last old new file y f l k h)
  input_one (Err (Fault f l)) (Err (Fault g n)) s t h k = search (rules, faults_one)
  input_one _ _ s t h k = absurd (search rules)

  pub turn_one : {A E : Type 0} (tell : E → InputFault) (reads : List ℕ → Result A (Refused E) → Type 0)
      → ((bytes : List ℕ) → ReadsOne (reads bytes))
      → AreOne (Turn m old new tell reads file) (Turn m later last tell reads file)
  turn_one tell reads one = search (rules, then_one, input_one, told_one)

-- ---- what is decided

-- what may be decided is one, by what is seen of it
pub record DecidesOne {A R : Type 0} (tell : R → Option (InputFault × List ℕ)) (accepts : A → Type 0) (refuses : R
    → Type 0) (Same : A → A → Type 0) : Type 0 where
  pub value : (x y : A) → accepts x → accepts y → Same x y
  pub refusal : (q r : R) (p o : InputFault × List ℕ) → tell q ≡ Some p → tell r ≡ Some o → refuses q → refuses r → q ≡ r
  pub either : (x : A) (r : R) (p : InputFault × List ℕ) → tell r ≡ Some p → accepts x → refuses r → ⊥

module _ {A R : Type 0} (tell : R → Option (InputFault × List ℕ)) (accepts : A → Type 0) (refuses : R
    → Type 0) (Same : Result A InputError → Result A InputError → Type 0)
    (same_error : (e : InputError) → Same (Err e) (Err e)) (one : DecidesOne tell accepts refuses (λ x y. Same (Ok x) (Ok y)))
  where
    pub decided_alike : Alike Same (Decided tell accepts refuses) (Decided tell accepts refuses)
    decided_alike (Ok x) (Ok y) s t h k = one.value x y h k
    decided_alike (Ok x) (Err (Fault g n)) s t h k = absurd (one.either x k.0 (g, n) k.2 h k.1)
    decided_alike (Err (Fault f l)) (Ok y) s t h k = absurd (one.either y h.0 (f, l) h.2 k h.1)
    decided_alike (Err (Fault f l)) (Err (Fault g n)) s t h k = search (rules)
    decided_alike _ _ s t h k = absurd (search rules)
