-- What the limits of a hierarchy give its flat system: at most so many leaves, domains, connections, and leaves in a domain.
use Rattle.std.specs.Prelude.{◌≡◌, ◌≤◌, ℕ, length, slice_get, Some}
use Rattle.adl_meaning.specs.declared.flat.Domain.{Domain}
use Rattle.adl_meaning.specs.declared.flat.Flat.{Flat}

pub record IsSmall (flat : Flat) : Type 0 where
  pub leaves : length flat.leaves ≤ 1024
  pub domains : length flat.domains ≤ 1024
  pub inside : (d : ℕ) (domain : Domain) → slice_get flat.domains d ≡ Some domain → length domain.leaves ≤ 1024
  pub connections : length flat.connections ≤ 4096
