-- What begins a form is begun in each of its fronts, and what spells it begins it. (No form need be decided for this.)
use Rattle.cam_base.proofs.Common.{As, Begins, Begun, Each, Form, Give, List, Many, Meaning, Nested, One, Or, Spelled, Spells, Starts, Then, [], ap, append-nil, append_assoc, deep, inl, inr, refl, rules, subst, suc, sym, zero, ℕ, ◌++◌, ◌∙◌, ◌∷◌, ◌≡◌, ◌⊎◌}
use Rattle.cam_base.proofs.Depth.{begins_nil}
use Rattle.cam_base.proofs.NumberedLists.{none_left}

-- two ways to cut one list: the first part of the one goes on in the second of the other, or the other way round
abbrev pub Cut : {T : Type 0} → List T → List T → List T → List T → Type 0
Cut {T = T} a b p q = ((c : List T) × (a ≡ p ++ c) × (q ≡ c ++ b)) ⊎ ((c : List T) × (p ≡ a ++ c) × (b ≡ c ++ q))

pub tail_is : {T : Type 0} (x y : T) (a b : List T) → x ∷ a ≡ y ∷ b → a ≡ b
tail_is x y a b e = cc

pub head_is : {T : Type 0} (x y : T) (a b : List T) → x ∷ a ≡ y ∷ b → x ≡ y
head_is x y a b e = cc

pub cut : {T : Type 0} (a b p q : List T) → a ++ b ≡ p ++ q → Cut a b p q
cut [] b p q e = inr (p, refl, e)
cut (x ∷ a) b [] q e = inl (x ∷ a, refl, sym e)
cut (x ∷ a) b (y ∷ p) q e = step (head_is x y (a ++ b) (p ++ q) e) (cut a b p q (tail_is x y (a ++ b) (p ++ q) e))
  where
    step : x ≡ y → Cut a b p q → Cut (x ∷ a) b (y ∷ p) q
    step h (inl s) = inl (s.0, ap (λ z. x ∷ z) s.1 ∙ ap (λ z. z ∷ (p ++ s.0)) h, s.2)
    step h (inr s) = inr (s.0, ap (λ z. y ∷ z) s.1 ∙ ap (λ z. z ∷ (a ++ s.0)) (sym h), s.2)

module _ {T V : Type 0} (code : T → ℕ) (m : Meaning T V) (m-nil : m.begins []) (m-begun : (v : V) (ts : List T) → m.spells v ts
    → m.begins ts) (m-front : (a b : List T) → m.begins (a ++ b) → m.begins a) where
  spelled_begins : {A : Type 0} (f : Form T V A) (x : A) (ts : List T) → Spells code m f x ts → Begins code m f ts
  spelled_begins (Give y) x ts s = s.1
  spelled_begins (One cs) x ts s = inr (x, s.0, s.1)
  spelled_begins (Then f g) x ts s = inr (x.0, s.0, s.1, s.2, s.3, spelled_begins g x.1 s.1 s.4)
  spelled_begins (Or f g) x ts (inl s) = inl (spelled_begins f x ts s)
  spelled_begins (Or f g) x ts (inr s) = inr (spelled_begins g x ts s)
  spelled_begins (Many f) xs ts s = (xs, ts, [], sym (append-nil ts), s, begins_nil code m m-nil f)
  spelled_begins (As h f) y ts s = spelled_begins f s.0 ts s.2
  spelled_begins (Starts cs f) x ts s = spelled_begins f x ts s
  spelled_begins Nested v ts s = m-begun v ts s

  each_front : {A : Type 0} (f : Form T V A) → ((a b : List T) → Begins code m f (a ++ b) → Begins code m f a)
      → (xs : List A) (a c : List T) → Each (Spells code m f) xs (a ++ c) → Begins code m (Many f) a
  each_front f front [] a c e = ([], [], [], none_left a c e, refl, begins_nil code m m-nil f)
  each_front f front (x ∷ xs) a c s = elim (cut a c s.0 s.1 s.2) [
    | inl d ↦
        let k = each_front f front xs d.0 c (subst (λ (z : List T). Each (Spells code m f) xs z) d.2 s.4) in (
          x ∷ k.0,
          s.0 ++ k.1,
          k.2,
          d.1 ∙ ap (λ (z : List T). s.0 ++ z) k.3 ∙ sym (append_assoc s.0 k.1 k.2),
          (s.0, k.1, refl, s.3, k.4),
          k.5,
        )
    | inr d ↦ ([], [], a, refl, refl, front a d.0 (subst (λ (z : List T). Begins code m f z) d.1 (spelled_begins f x s.0 s.3)))
  ]

  begins_front : {A : Type 0} (f : Form T V A) (a b : List T) → Begins code m f (a ++ b) → Begins code m f a
  begins_front (Give x) a b e = none_left a b e
  begins_front (One cs) a b (inl e) = inl (none_left a b e)
  begins_front (One cs) [] b (inr s) = inl refl
  begins_front (One cs) (x ∷ a) b (inr s) = search (rules, none_left, tail_is, head_is)
  begins_front (Then f g) a b (inl h) = inl (begins_front f a b h)
  begins_front (Then f g) a b (inr s) = elim (cut a b s.1 s.2 s.3) [
    | inl c ↦ inr (s.0, s.1, c.0, c.1, s.4, begins_front g c.0 b (subst (λ (z : List T). Begins code m g z) c.2 s.5))
    | inr c ↦ inl (begins_front f a c.0 (subst (λ (z : List T). Begins code m f z) c.1 (spelled_begins f s.0 s.1 s.4)))
  ]
  begins_front (Or f g) a b (inl h) = inl (begins_front f a b h)
  begins_front (Or f g) a b (inr h) = inr (begins_front g a b h)
  begins_front (Many {A = A} f) a b s = elim (cut a b s.1 s.2 s.3) [
    | inl c ↦ (s.0, s.1, c.0, c.1, s.4, begins_front f c.0 b (subst (λ (z : List T). Begins code m f z) c.2 s.5))
    | inr c ↦ each_front f (λ u v h. begins_front f u v h) s.0 a c.0
        (subst (λ (z : List T). Each (Spells code m f) s.0 z) c.1 s.4)
  ]
  begins_front (As h f) a b s = begins_front f a b s
  begins_front (Starts cs f) a b s = begins_front f a b s
  begins_front Nested a b s = m-front a b s

module _ {T V : Type 0} (code : T → ℕ) (line : Form T V V) where
  record IsClosed (n : ℕ) : Type 0 where
    nil : (deep code line n).begins []
    begun : (v : V) (ts : List T) → (deep code line n).spells v ts → (deep code line n).begins ts
    front : (a b : List T) → (deep code line n).begins (a ++ b) → (deep code line n).begins a

  closed : (n : ℕ) → IsClosed n
  closed zero = record { nil = refl; begun = λ v ts s. absurd s; front = λ a b e. none_left a b e }
  closed (suc n) =
      let c = closed n in
      record {
        nil = begins_nil code (deep code line n) c.nil line;
        begun = λ v ts s. spelled_begins code (deep code line n) c.nil c.begun c.front line v ts s;
        front = λ a b s. begins_front code (deep code line n) c.nil c.begun c.front line a b s;
      }

  -- what begins a form is begun in each of its fronts, at each depth
  pub deep_front : (n : ℕ) {A : Type 0} (f : Form T V A) (a b : List T) → Begins code (deep code line n) f (a ++ b)
      → Begins code (deep code line n) f a
  deep_front n f a b s = let c = closed n in begins_front code (deep code line n) c.nil c.begun c.front f a b s

  -- what spells a form begins it, at each depth
  pub deep_begun : (n : ℕ) {A : Type 0} (f : Form T V A) (x : A) (ts : List T) → Spells code (deep code line n) f x ts
      → Begins code (deep code line n) f ts
  deep_begun n f x ts s = let c = closed n in spelled_begins code (deep code line n) c.nil c.begun c.front f x ts s

  -- what begins a form is begun in each of its fronts
  pub begun_front : {A : Type 0} (f : Form T V A) (a b : List T) → Begun code line f (a ++ b) → Begun code line f a
  begun_front f a b s = (s.0, deep_front s.0 f a b s.1)

  -- each front of a spelling begins the form
  pub spelling_front : {A : Type 0} (f : Form T V A) (x : A) (a b : List T) → Spelled code line f x (a ++ b) → Begun code line f a
  spelling_front f x a b s = (s.0, deep_front s.0 f a b (deep_begun s.0 f x (a ++ b) s.1))
