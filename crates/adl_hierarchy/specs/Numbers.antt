-- Numbers of components.
use Rattle.std.specs.Prelude.{◌≡◌, ◌<◌, ℕ, Option, Some}
use Rattle.adl_meaning.specs.Items.{Name}

-- each number that a name has is below n
abbrev pub AreBelow : (Name → Option ℕ) → ℕ → Type 0
AreBelow numbers n = (m : Name) (a : ℕ) → numbers m ≡ Some a → a < n
