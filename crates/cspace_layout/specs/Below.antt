-- The names of crates below that the definitions here cite, passed on from one place. Declares nothing.
pub use Rattle.adl_meaning.specs.Prelude.{Ended, Fault, Item, Member, Place, Source, SourceFile, assemblies, flat_map, option_and_then, option_or}
pub use Rattle.adl_meaning.specs.declared.connector.Connector.{Connector}
pub use Rattle.adl_meaning.specs.declared.flat.Flat.{Flat}
pub use Rattle.adl_meaning.specs.declared.flat.FlatConnection.{FlatConnection}
pub use Rattle.adl_meaning.specs.declared.flat.FlatEnd.{FlatEnd}
pub use Rattle.adl_meaning.specs.declared.item_at.ItemAt.{ItemAt}
pub use Rattle.adl_meaning.specs.declared.settled.Settled.{Settled}
pub use Rattle.cam_base.specs.Gather.{IsIn, gather}
