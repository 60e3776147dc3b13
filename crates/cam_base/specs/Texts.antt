-- Texts that are written in parts.
use Rattle.std.specs.Prelude.{ℕ, List, ◌++◌}
use Rattle.std.specs.List.{flat_map}

infixl 65 ◌⊹◌
-- One text behind another. It does not compute, so that a literal in front of it stays whole.
unfoldable pub ◌⊹◌ : List ℕ → List ℕ → List ℕ
◌⊹◌ a b = a ++ b

-- Several texts, one behind another. It does not compute either.
unfoldable pub together : List (List ℕ) → List ℕ
together = flat_map (λ x. x)
