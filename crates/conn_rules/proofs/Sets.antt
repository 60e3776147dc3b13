-- The bits of a set of listed authorities.
use Rattle.std.proofs.Common.{◌≡◌, ◌∙◌, ◌<◌, ◌^◌, ◌*◌, ◌%◌, ◌==◌, ◌||◌, Bool, true, false, refl, sym, ap, arith, List, [], ◌∷◌, bit_or}
use Rattle.std.specs.Int.{bit_at}
use Rattle.std.proofs.lemmas.Nat.{one_shl, or_lt, pow_below}
use Rattle.std.proofs.lemmas.Nat.Bits.{bit_at-zero}
use Rattle.authorities.proofs.AuthorityBits.{bit_at-added, number_of-lt}
use Rattle.authorities.specs.Authorities.{number_of}
use Rattle.authorities.specs.AuthoritySets.{IsSetOf, set_has}
use Rattle.authorities.specs.declared.authority.Authority.{Authority}
use Rattle.conn_rules.specs.Row.{among, bits_of}

or_comm : (a b : Bool) → (a || b) ≡ (b || a)
or_comm true true = refl
or_comm true false = refl
or_comm false true = refl
or_comm false false = refl

set_has-bits_of : (list : List Authority) (a : Authority) → set_has (bits_of list) a ≡ among list a
set_has-bits_of [] a = rw (bit_at-zero (number_of a)) refl
set_has-bits_of (b ∷ rest) a =
    let below = number_of-lt b in
    let one : 1 * 2 ^ number_of b % 65536 ≡ 2 ^ number_of b = one_shl (number_of b) 16 (omega arith) in
    ap (λ n. bit_at (bit_or (bits_of rest) n) (number_of a) == 1) (sym one)
    ∙ (bit_at-added (bits_of rest) (number_of b) (number_of a) (omega arith)
    ∙ (or_comm (set_has (bits_of rest) a) (number_of a == number_of b) ∙ ap (λ r. number_of a == number_of b || r)
    (set_has-bits_of rest a)))

bits_of-lt : (list : List Authority) → bits_of list < 2 ^ 12
bits_of-lt [] = omega arith
bits_of-lt (b ∷ rest) = or_lt 12 (bits_of rest) (2 ^ number_of b) (bits_of-lt rest) (pow_below (number_of b) 12 (number_of-lt b))

-- the bits of listed authorities are the set of those
pub set_of_list : (list : List Authority) → IsSetOf (among list) (bits_of list)
set_of_list list = record { each = set_has-bits_of list; no_more = bits_of-lt list }
