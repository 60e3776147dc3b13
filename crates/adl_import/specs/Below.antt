-- The names of crates below that the definitions here cite, passed on from one place. Declares nothing.
pub use Rattle.adl_ast.specs.Seeing.{see}
pub use Rattle.adl_ast.specs.Spelling.{IsFileSpelled}
pub use Rattle.adl_ast.specs.declared.file.File.{File}
pub use Rattle.adl_ast.specs.declared.file.Import.{Import}
pub use Rattle.adl_ast.specs.declared.source.SourceFile.{SourceFile}
pub use Rattle.adl_lexer.specs.Lexes.{IsFirstFault, Lexes}
pub use Rattle.adl_parse.specs.Files.{IsFileIn}
pub use Rattle.cam_base.specs.Unread.{SourceError}
pub use Rattle.cam_base.specs.declared.code.Code.TheVariants.{BadPath, Limit, NoFile}
pub use Rattle.cam_base.specs.declared.error.Refused.{Refused}
pub use Rattle.cam_base.specs.declared.place.Fault.{Fault}
pub use Rattle.cam_base.specs.declared.place.Place.{Place}
pub use Rattle.cam_base.specs.declared.token.Token.{Token}
pub use Rattle.cam_io.specs.Contents.{Contents}
pub use Rattle.std.specs.FinMap.{get}
pub use Rattle.std.specs.List.{flat_map, join_with_byte, list_all, list_any, slice_split}
pub use Rattle.std.specs.Option.{option_and_then, option_map_or}
pub use Rattle.std.specs.Str.{IsUtf8, bytes_eq, is_utf8}
