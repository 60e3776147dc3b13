-- Multiples of powers of two.
use Rattle.boot_plan.proofs.Common.{ap, arith, cases_lt, le_of_mul-le-mul_right, lit<, mul-le-mul_right, mul-mod_left, one-le-pow, ℕ, rules, ⊎_elim, ◌%◌, ◌*◌, ◌+◌, ◌-◌, ◌/◌, ◌<◌, ◌^◌, ◌∙◌, ◌≡◌, ◌≤◌}
use Rattle.std.proofs.lemmas.Nat.{pow-add, div-add-mod'}

pub record Multiple (s n : ℕ) : Type 0 where
  pub times : ℕ
  pub is : n ≡ times * 2 ^ s

pub power_pos : (s : ℕ) → 0 < 2 ^ s
power_pos s = let h = one-le-pow s 2 (lit< tt) in omega (arith, h)

pub multiple_from : (s n : ℕ) → n % 2 ^ s ≡ 0 → Multiple s n
multiple_from s n h = let e = div-add-mod' n (2 ^ s) in record { times = n / 2 ^ s; is = omega (arith, e, h) }

pub multiple_rem : (s n : ℕ) → Multiple s n → n % 2 ^ s ≡ 0
multiple_rem s n m = ap (λ k. k % 2 ^ s) m.is ∙ mul-mod_left m.times (2 ^ s)

pub multiple_none : (s : ℕ) → Multiple s 0
multiple_none s = record { times = 0; is = omega arith }

pub multiple_one : (s : ℕ) → Multiple s (2 ^ s)
multiple_one s = record { times = 1; is = omega arith }

pub multiple_add : (s n m : ℕ) → Multiple s n → Multiple s m → Multiple s (n + m)
multiple_add s n m a b = let e = a.is in let f = b.is in record { times = a.times + b.times; is = omega (arith, e, f) }

pub multiple_sub : (s n m : ℕ) → Multiple s n → Multiple s m → m ≤ n → Multiple s (n - m)
multiple_sub s n m a b le =
    let few : b.times ≤ a.times = search (rules, le_of_mul-le-mul_right, power_pos) in
    let k = a.times - b.times in
    let back : a.times ≡ k + b.times = omega arith in
    let whole : a.times * 2 ^ s ≡ (k + b.times) * 2 ^ s = ap (λ t. t * 2 ^ s) back in
    record { times = k; is = omega (arith, whole, a.is, b.is) }

-- a multiple of a power is one of each lesser power
pub multiple_coarse : (s b n : ℕ) → s ≤ b → Multiple b n → Multiple s n
multiple_coarse s b n le a =
    let e : b ≡ (b - s) + s = omega arith in
    let p : 2 ^ b ≡ 2 ^ (b - s) * 2 ^ s = ap (λ k. 2 ^ k) e ∙ pow-add 2 (b - s) s in
    let q : a.times * 2 ^ b ≡ a.times * (2 ^ (b - s) * 2 ^ s) = ap (λ k. a.times * k) p in
    record { times = a.times * 2 ^ (b - s); is = omega (arith, a.is, q) }

-- between two multiples stands one size
pub multiple_gap : (s n m : ℕ) → Multiple s n → Multiple s m → n < m → n + 2 ^ s ≤ m
multiple_gap s n m a b lt = search (rules, mul-le-mul_right, cases_lt)
