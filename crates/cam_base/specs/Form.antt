-- A grammar as data. A form is a line of a grammar that also says which value it means.
use Rattle.std.specs.Prelude.{ℕ, Bool, true, false, List, [], ◌∷◌, ◌==◌, if◌then◌else◌, Option, Some, None}

-- A form over tokens T that means a value of the type behind it. V is the type of the values of the grammar's one line
-- that may stand within itself, as a list of values within a value.
pub data Form (T V : Type 0) : Type 0 → Type 1 where
  -- nothing, which means this value
  Give : {A : Type 0} → A → Form T V A
  -- one token, whose code is among these
  One : List ℕ → Form T V T
  -- one form after the other
  Then : {A B : Type 0} → Form T V A → Form T V B → Form T V (A × B)
  -- the one form or the other
  Or : {A : Type 0} → Form T V A → Form T V A → Form T V A
  -- any number of them, none too
  Many : {A : Type 0} → Form T V A → Form T V (List A)
  -- the same tokens, with this meaning
  As : {A B : Type 0} → (A → B) → Form T V A → Form T V B
  -- the same form, said to begin with one of these codes
  Starts : {A : Type 0} → List ℕ → Form T V A → Form T V A
  -- the line that may stand within itself
  Nested : Form T V V

-- among codes c: c is one of the codes
abbrev pub among : List ℕ → ℕ → Bool
among [] c = false
among (d ∷ ds) c = if c == d then true else among ds c

-- one token with this code
abbrev pub token : {T V : Type 0} → ℕ → Form T V T
token c = One (c ∷ [])

-- the form, or nothing
abbrev pub maybe : {T V A : Type 0} → Form T V A → Form T V (Option A)
maybe f = Or (As Some f) (Give None)

-- a token with this code, and then the form, which alone has a meaning
abbrev pub behind : {T V A : Type 0} → ℕ → Form T V A → Form T V A
behind c f = As (λ x. x.1) (Then (token c) f)

-- one or more, with a token of this code between two of them
abbrev pub separated : {T V A : Type 0} → ℕ → Form T V A → Form T V (List A)
separated c f = As (λ x. x.0 ∷ x.1) (Then f (Many (behind c f)))
