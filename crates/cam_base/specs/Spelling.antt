-- What a form spells, and what begins it.
use Rattle.std.specs.Prelude.{◌≡◌, ℕ, true, List, [], ◌∷◌, ◌++◌, ◌⊎◌}
use Rattle.cam_base.specs.Form.{Form, Give, One, Then, Or, Many, As, Starts, Nested, among}

-- What the line that may stand within itself spells, and what begins it.
pub record Meaning (T V : Type 0) : Type 1 where
  pub spells : V → List T → Type 0
  pub begins : List T → Type 0

-- The tokens are those of the values, one value after the other.
abbrev pub Each : {A T : Type 0} → (A → List T → Type 0) → List A → List T → Type 0
Each P [] ts = ts ≡ []
Each {T = T} P (x ∷ xs) ts = (a : List T) × (b : List T) × (ts ≡ a ++ b) × P x a × Each P xs b

module _ {T V : Type 0} (code : T → ℕ) (m : Meaning T V) where
  -- Writing the value out by the form gives exactly these tokens.
  abbrev pub Spells : {A : Type 0} → Form T V A → A → List T → Type 0
  Spells (Give y) x ts = (x ≡ y) × (ts ≡ [])
  Spells (One cs) x ts = (among cs (code x) ≡ true) × (ts ≡ x ∷ [])
  Spells (Then f g) x ts = (a : List T) × (b : List T) × (ts ≡ a ++ b) × Spells f x.0 a × Spells g x.1 b
  Spells (Or f g) x ts = Spells f x ts ⊎ Spells g x ts
  Spells (Many f) xs ts = Each (Spells f) xs ts
  Spells (As {A = A} h f) y ts = (x : A) × (y ≡ h x) × Spells f x ts
  Spells (Starts cs f) x ts = Spells f x ts
  Spells Nested v ts = m.spells v ts

  -- These tokens begin the form: more of them may be to come. The empty list begins every form.
  abbrev pub Begins : {A : Type 0} → Form T V A → List T → Type 0
  Begins (Give y) ts = ts ≡ []
  -- a single token is begun by itself
  Begins (One cs) ts = (ts ≡ []) ⊎ ((t : T) × (among cs (code t) ≡ true) × (ts ≡ t ∷ []))
  -- a sequence by what begins its first part, and by the whole of its first part followed by what begins the rest
  Begins (Then {A = A} f g) ts = Begins f ts ⊎ ((x : A) × (a : List T) × (b : List T) × (ts ≡ a ++ b) × Spells f x a × Begins g b)
  -- a choice by what begins one of its members
  Begins (Or f g) ts = Begins f ts ⊎ Begins g ts
  -- a repetition by whole repeats followed by what begins one more
  Begins (Many {A = A} f) ts = (xs : List A) × (a : List T) × (b : List T) × (ts ≡ a ++ b) × Each (Spells f) xs a × Begins f b
  Begins (As h f) ts = Begins f ts
  Begins (Starts cs f) ts = Begins f ts
  Begins Nested ts = m.begins ts
