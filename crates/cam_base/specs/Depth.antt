-- How deep the line that may stand within itself nests.
use Rattle.std.specs.Prelude.{◌≡◌, ℕ, zero, suc, List, []}
use Rattle.cam_base.specs.Form.{Form}
use Rattle.cam_base.specs.Spelling.{Meaning, Spells, Begins}

module _ {T V : Type 0} (code : T → ℕ) (line : Form T V V) where
  -- What may stand where the line stands within itself, nested at most n deep. At depth 0 nothing may, so a line without
  -- another in it has depth 1, and a form in which no line stands has depth 0: in the architecture language a number or
  -- a text has depth 0, and brackets without brackets in them have depth 1.
  abbrev pub deep : ℕ → Meaning T V
  deep zero = record { spells = λ v ts. ⊥; begins = λ ts. ts ≡ [] }
  deep (suc n) = record { spells = Spells code (deep n) line; begins = Begins code (deep n) line }

  -- Writing the value out by the form gives exactly these tokens, however deep it nests.
  abbrev pub Spelled : {A : Type 0} → Form T V A → A → List T → Type 0
  Spelled f x ts = (n : ℕ) × Spells code (deep n) f x ts

  -- These tokens begin the form, however deep it nests.
  abbrev pub Begun : {A : Type 0} → Form T V A → List T → Type 0
  Begun f ts = (n : ℕ) × Begins code (deep n) f ts
