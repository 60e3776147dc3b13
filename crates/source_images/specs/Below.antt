-- The names of crates below that the definitions here cite, passed on from one place. Declares nothing.
pub use Rattle.adl_ast.specs.declared.source.Source.{Source}
pub use Rattle.adl_meaning.specs.Faults.{least, noted, where_true}
pub use Rattle.adl_meaning.specs.declared.flat.Flat.{Flat}
pub use Rattle.adl_meaning.specs.declared.flat.Leaf.{Leaf}
pub use Rattle.cam_base.specs.Gather.{IsIn, gather}
pub use Rattle.cam_base.specs.Lines.{Line, end_of, lines}
pub use Rattle.cam_base.specs.Unread.{SourceError}
pub use Rattle.cam_base.specs.declared.code.Code.TheVariants.{Limit, NoSections}
pub use Rattle.cam_base.specs.declared.place.Fault.{Fault}
pub use Rattle.cam_base.specs.declared.place.Place.{Place}
pub use Rattle.cam_io.specs.Contents.{Contents}
pub use Rattle.cap_model.specs.declared.level.Arch.{Arch}
pub use Rattle.cap_model.specs.declared.level.Arch.TheVariants.{Aarch64, Arm11}
pub use Rattle.sect_table.specs.Tables.{bad_between, bad_line, first_fault, image_of}
pub use Rattle.sect_table.specs.declared.image.Image.{Image}
pub use Rattle.sect_table.specs.declared.image.Section.{Section}
pub use Rattle.std.specs.FinMap.{get}
pub use Rattle.std.specs.List.{filter_map, flat_map, list_any, range_with_len, zip}
pub use Rattle.std.specs.Option.{option_and_then, option_map, option_map_or, option_or}
pub use Rattle.std.specs.Str.{bytes_eq}
