-- The names of crates below that the definitions here cite, passed on from one place. Declares nothing.
pub use Rattle.adl_ast.specs.declared.component.Attribute.{Attribute}
pub use Rattle.adl_ast.specs.declared.component.Component.{Component}
pub use Rattle.adl_ast.specs.declared.component.Interface.{Interface}
pub use Rattle.adl_ast.specs.declared.component.InterfaceKind.{InterfaceKind}
pub use Rattle.adl_ast.specs.declared.component.Member.{Member}
pub use Rattle.adl_ast.specs.declared.composition.Assembly.{Assembly}
pub use Rattle.adl_ast.specs.declared.composition.Composition.{Composition}
pub use Rattle.adl_ast.specs.declared.composition.Connection.{Connection}
pub use Rattle.adl_ast.specs.declared.composition.End.{End}
pub use Rattle.adl_ast.specs.declared.composition.Export.{Export}
pub use Rattle.adl_ast.specs.declared.composition.Instance.{Instance}
pub use Rattle.adl_ast.specs.declared.composition.Line.{Line}
pub use Rattle.adl_ast.specs.declared.configuration.Configuration.{Configuration}
pub use Rattle.adl_ast.specs.declared.configuration.Setter.{Setter}
pub use Rattle.adl_ast.specs.declared.configuration.Setting.{Setting}
pub use Rattle.adl_ast.specs.declared.file.Item.{Item}
pub use Rattle.adl_ast.specs.declared.id.Id.{Id}
pub use Rattle.adl_ast.specs.declared.procedure.Procedure.{Procedure}
pub use Rattle.adl_ast.specs.declared.source.Source.{Source}
pub use Rattle.cam_base.specs.declared.place.Fault.{Fault}
pub use Rattle.cam_base.specs.declared.place.Place.{Place}
pub use Rattle.std.specs.List.{All, AllByRecursion, count_by, enumerate_from, filter, filter_map, find, flat_map, list_all, list_any, slice_get}
pub use Rattle.std.specs.Option.{is_none, option_and_then, option_map_or, option_or}
pub use Rattle.std.specs.Str.{bytes_eq}
