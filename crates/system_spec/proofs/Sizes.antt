-- The search for the number of bits.
use Rattle.system_spec.proofs.Common.{arith, bits_from, false, le-ltb, lt-ltb, nat_lt, refl, suc, sym, true, zero, ℕ, ◌+◌, ◌-◌, ◌<◌, ◌^◌, ◌≡◌, ◌≤◌}
use Rattle.system_spec.specs.Bits.{bits_for}

stop : (n b m : ℕ) → n < 2 ^ b → bits_from n b m ≡ b
stop n b zero h = refl
stop n b (suc m) h = let t : nat_lt n (2 ^ b) ≡ true = lt-ltb n (2 ^ b) h in rw t refl

more : (n b m : ℕ) → 2 ^ b ≤ n → bits_from n b (suc m) ≡ bits_from n (b + 1) m
more n b m h = let t : nat_lt n (2 ^ b) ≡ false = le-ltb n (2 ^ b) h in rw t refl

pub bits_stop : (n b : ℕ) → n < 2 ^ b → bits_from n b (16 - b) ≡ b
bits_stop n b h = stop n b (16 - b) h

pub bits_last : (n b : ℕ) → 16 ≤ b → bits_from n b (16 - b) ≡ b
bits_last n b h = let e : 16 - b ≡ 0 = omega arith in rw e refl

pub bits_more : (n b : ℕ) → b < 16 → 2 ^ b ≤ n → bits_from n (b + 1) (16 - (b + 1)) ≡ bits_from n b (16 - b)
bits_more n b l h =
    let e : 16 - b ≡ suc (16 - (b + 1)) = omega arith in
    rw e (sym (more n b (16 - (b + 1)) h))

pub bits_first : (n : ℕ) → bits_from n 1 (16 - 1) ≡ bits_for n
unfolding bits_for
bits_first n = refl

pub ruleset bits_steps = (bits_stop, bits_last, bits_more, bits_first)
