-- Numbers in 32 bits.
use Rattle.std.specs.Prelude.{ℕ, nat_lt, if◌then◌else◌, Option, Some, None}
use Rattle.policy_text.specs.Entries.{Number, value}

abbrev pub within : Option ℕ → ℕ
within None = 0
within (Some v) = if nat_lt v 4294967296 then v else 0

-- the value, 0 where it passes 2^32 - 1
abbrev pub narrow : Number → ℕ
narrow n = within (value n)
