-- The words that contracts here share, passed on from one place. Declares nothing.
pub use Rattle.adl_meaning.specs.declared.item_at.ItemAt.{ItemAt}
pub use Rattle.adl_items.specs.Declaring.{declared_told, declaring_told}
pub use Rattle.adl_items.specs.Firsts.{first_named}
pub use Rattle.adl_items.specs.Located.{located, trees}
pub use Rattle.adl_items.specs.Pointed.{pointed}
pub use Rattle.adl_items.specs.declared.component.Declared.{Declared}
pub use Rattle.adl_meaning.specs.Export.{inner_of}
pub use Rattle.indexmap.specs.IndexMap.{IndexMap, get}
pub use Rattle.name_tables.specs.ByName.{found, is_among}
