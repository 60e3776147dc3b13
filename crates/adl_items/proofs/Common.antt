-- The names that most proofs cite, passed on from one place. Declares nothing.
pub use Rattle.adl_items.specs.Firsts.{first_named}
pub use Rattle.adl_items.specs.Located.{located, trees}
pub use Rattle.adl_meaning.specs.Prelude.{Component, Id, Name, as_assembly, as_component, as_composition, as_procedure, bytes_eq, components, declared_by, enumerate_from, filter_map, flat_map, items_in, option_or, slice_get}
pub use Rattle.adl_meaning.specs.Recursive.{number_from}
pub use Rattle.cam_base.proofs.Options.{option_or-assoc, option_or-none}
pub use Rattle.name_tables.specs.ByName.{found}
pub use Rattle.std.proofs.Common.{List, Option, [], ap, arith, drop, get_or, length, map, option_map, refl, sym, ℕ, ◌++◌, ◌+◌, ◌<◌, ◌∙◌, ◌∷◌, ◌≡◌}
