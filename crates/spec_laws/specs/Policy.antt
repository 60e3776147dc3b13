-- What the policy of a system is made from, out of what its objects are made from.
use Rattle.spec_laws.specs.Below.{Given, Tables, given}
use Rattle.arch_policy.specs.Tables.{Tables as Policy}

abbrev pub policy_tables : Tables → Policy
policy_tables t = record { source = t.source; flat = t.flat; settled = t.settled; numbers = t.numbers }

-- and what its spaces are laid out from
abbrev pub given_tables : Tables → Given
given_tables t = given t.source t.flat t.settled t.images
