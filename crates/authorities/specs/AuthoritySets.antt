-- Sets of authorities, as bits: the authority of number n is in the set exactly where bit n is 1.
use Rattle.std.specs.Prelude.{◌≡◌, ◌<◌, ◌^◌, ℕ, ◌==◌, Bool}
use Rattle.std.specs.Int.{bit_at}
use Rattle.authorities.specs.Authorities.{number_of}
use Rattle.authorities.specs.declared.authority.Authority.{Authority}

abbrev pub set_has : ℕ → Authority → Bool
set_has bits a = bit_at bits (number_of a) == 1

-- the set of the authorities that pass the test: these and no others, and no bit that is no authority's
pub record IsSetOf (passes : Authority → Bool) (bits : ℕ) : Type 0 where
  pub each : (a : Authority) → set_has bits a ≡ passes a
  pub no_more : bits < 2 ^ 12
