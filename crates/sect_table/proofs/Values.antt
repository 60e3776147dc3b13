-- How large the number of so many bytes is.
use Rattle.sect_table.proofs.Common.{arith, lit<, pow-le-pow_right, refl, ℕ, ◌*◌, ◌+◌, ◌<◌, ◌^◌, ◌≡◌, ◌≤◌}

pub byte_fits : (r n : ℕ) → n + 1 ≤ 8 → r < 256 ^ n → 256 * r + 255 < 2 ^ 64
byte_fits r n l h = grind (arith, pow-le-pow_right)
