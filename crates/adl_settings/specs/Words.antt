-- The names that most definitions and clauses cite, passed on from one place. Declares nothing.
pub use Rattle.adl_meaning.specs.declared.flat.Flat.{Flat}
pub use Rattle.adl_meaning.specs.declared.flat.FlatConnection.{FlatConnection}
pub use Rattle.adl_meaning.specs.declared.flat.FlatEnd.{FlatEnd}
pub use Rattle.adl_meaning.specs.declared.flat.Leaf.{Leaf}
pub use Rattle.adl_meaning.specs.declared.settled.EndSetting.{EndSetting}
pub use Rattle.adl_meaning.specs.declared.settled.Settled.{Settled}
