-- A numbered slot is below the size, where there is one.
use Rattle.capdl_text.proofs.Common.{Option, Some, true, ℕ, ◌≡◌}
use Rattle.capdl_text.specs.declared.tree.SlotKey.{SlotKey}
use Rattle.capdl_text.specs.declared.tree.SlotKey.TheVariants as keys
use Rattle.std.specs.Prelude.{nat_lt}

abbrev pub IsBelow : Option ℕ → SlotKey → Type 0
IsBelow (Some size) (keys.Number n) = nat_lt n size ≡ true
IsBelow size key = Unit {0}
