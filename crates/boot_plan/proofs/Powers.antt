-- Powers of two.
use Rattle.boot_plan.proofs.Common.{arith, lit<, nat_lt, nat_tests, pow-le-pow_right, true, ℕ, ◌<◌, ◌^◌, ◌≡◌, ◌≤◌}

pub pow_le : (i j : ℕ) → i ≤ j → 2 ^ i ≤ 2 ^ j
pow_le i j h = pow-le-pow_right {n = 2} (lit< tt) {i = i} {j = j} h

pub below_power : (n bits : ℕ) → 64 ≤ bits → n < 2 ^ 64 → nat_lt n (2 ^ bits) ≡ true
below_power n bits h l = let p = pow_le 64 bits h in grind (arith, nat_tests)

pub ruleset powers = (below_power)
