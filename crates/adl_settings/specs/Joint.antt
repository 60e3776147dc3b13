-- An end of a connection, at the interface of the leaf that it joins.
use Rattle.adl_meaning.specs.Prelude.{Interface}
use Rattle.std.specs.Prelude.{ℕ}
use Rattle.adl_settings.specs.Words.{FlatConnection, FlatEnd, Leaf}

pub record Joint : Type 0 where
  pub connection : FlatConnection
  pub position : ℕ  -- of a `from` end among the `from` ends of the connection, from 1
  pub end : FlatEnd
  pub leaf : Leaf
  pub interface : Interface
