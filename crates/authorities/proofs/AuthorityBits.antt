-- The bits of a set of authorities when one is added, and what two equal sets have in common.
use Rattle.std.proofs.Common.{◌≡◌, ◌<◌, ◌^◌, ◌*◌, ◌%◌, ◌==◌, ◌||◌, ℕ, Bool, refl, inl, inr, arith, subst, zero, suc, bit_or, w16}
use Rattle.std.specs.Int.{bit_at}
use Rattle.std.proofs.Math.Bool.{or-false, or-true}
use Rattle.std.proofs.lemmas.Bool.Decides.{eqb_tells}
use Rattle.std.proofs.lemmas.Nat.{or_lt, pow_below, one_shl}
use Rattle.std.proofs.lemmas.Nat.Bits.{bit_at_set_same, bit_at_set_other, bit_at-lt, same_from_bits_below}
use Rattle.authorities.specs.Authorities.{number_of}
use Rattle.authorities.specs.AuthoritySets.{set_has, IsSetOf}
use Rattle.authorities.specs.declared.authority.Authority.{Authority}
use Rattle.authorities.specs.declared.authority.Authority.TheVariants.{Receive, SyncSend, AsyncSend, Reset, Grant, Read, Write, Control, Call, Reply, GrantBack, Handle}

pub number_of-lt : (a : Authority) → number_of a < 12
number_of-lt Receive = omega arith
number_of-lt SyncSend = omega arith
number_of-lt AsyncSend = omega arith
number_of-lt Reset = omega arith
number_of-lt Grant = omega arith
number_of-lt Read = omega arith
number_of-lt Write = omega arith
number_of-lt Control = omega arith
number_of-lt Call = omega arith
number_of-lt Reply = omega arith
number_of-lt GrantBack = omega arith
number_of-lt Handle = omega arith

pub bit_at-added : (bits n k : ℕ) → n < 16 → (bit_at (bit_or bits (1 * 2 ^ n % 65536)) k == 1) ≡ (bit_at bits k == 1 || k == n)
bit_at-added bits n k l = elim (eqb_tells k n) [
  | inl t ↦
      let set : bit_at (bit_or bits (1 * 2 ^ n % 65536)) k ≡ 1 = rw t.1 (bit_at_set_same w16 bits n l) in
      rw (set, t.0, or-true (bit_at bits k == 1)) refl
  | inr t ↦
      let set : bit_at (bit_or bits (1 * 2 ^ n % 65536)) k ≡ bit_at bits k = bit_at_set_other w16 bits n l k t.1 in
      rw (set, t.0, or-false (bit_at bits k == 1)) refl
]

pub added-lt : (bits n : ℕ) → n < 12 → bits < 2 ^ 12 → bit_or bits (1 * 2 ^ n % 65536) < 2 ^ 12
added-lt bits n l b =
    let one : 1 * 2 ^ n % 65536 ≡ 2 ^ n = one_shl n 16 (omega arith) in
    rw one (or_lt 12 bits (2 ^ n) b (pow_below n 12 l))

authority_at : (n : ℕ) → n < 12 → (a : Authority) × (number_of a ≡ n)
authority_at zero l = (Receive, refl)
authority_at (suc zero) l = (SyncSend, refl)
authority_at (suc (suc zero)) l = (AsyncSend, refl)
authority_at (suc (suc (suc zero))) l = (Reset, refl)
authority_at (suc (suc (suc (suc zero)))) l = (Grant, refl)
authority_at (suc (suc (suc (suc (suc zero))))) l = (Read, refl)
authority_at (suc (suc (suc (suc (suc (suc zero)))))) l = (Write, refl)
authority_at (suc (suc (suc (suc (suc (suc (suc zero))))))) l = (Control, refl)
authority_at (suc (suc (suc (suc (suc (suc (suc (suc zero)))))))) l = (Call, refl)
authority_at (suc (suc (suc (suc (suc (suc (suc (suc (suc zero))))))))) l = (Reply, refl)
authority_at (suc (suc (suc (suc (suc (suc (suc (suc (suc (suc zero)))))))))) l = (GrantBack, refl)
authority_at (suc (suc (suc (suc (suc (suc (suc (suc (suc (suc (suc zero))))))))))) l = (Handle, refl)
authority_at (suc (suc (suc (suc (suc (suc (suc (suc (suc (suc (suc (suc n)))))))))))) l = absurd (omega arith)

bit_at-same : (a b i : ℕ) → (bit_at a i == 1) ≡ (bit_at b i == 1) → bit_at a i ≡ bit_at b i
bit_at-same a b i same =
    let p = bit_at-lt a i in
    let q = bit_at-lt b i in
    elim (eqb_tells (bit_at a i) 1) [
      | inl s ↦ elim (eqb_tells (bit_at b i) 1) [
        | inl t ↦ omega (arith, s.1, t.1)
        | inr t ↦ absurd (let e = s.0 in let f = t.0 in cc)
      ]
      | inr s ↦ elim (eqb_tells (bit_at b i) 1) [
        | inl t ↦ absurd (let e = s.0 in let f = t.0 in cc)
        | inr t ↦ omega (arith, s.1, t.1, p, q)
      ]
    ]

-- only one number of bits is the set of the authorities that pass a test
pub one_set : (passes : Authority → Bool) (a b : ℕ) → IsSetOf passes a → IsSetOf passes b → a ≡ b
one_set passes a b p q = same_from_bits_below 12 a b p.no_more q.no_more (λ i l.
    let at = authority_at i l in
    let same : set_has a at.0 ≡ set_has b at.0 = (let e = p.each at.0 in let f = q.each at.0 in cc) in
    bit_at-same a b i (subst (λ n. (bit_at a n == 1) ≡ (bit_at b n == 1)) at.1 same))
