-- Words for the contracts of private functions alone: what contracts see of a net.
use Rattle.std.specs.Prelude.{ℕ, List}
use Rattle.cap_audit.specs.declared.found.Way.{Way}

-- by the objects' places the ways out, and classes of objects that ways join in both directions
pub record Lanes : Type 0 where
  pub out : List (List Way)
  pub classes : List ℕ
