-- The names that most proofs cite, passed on from one place. Declares nothing.
pub use Rattle.adl_ast.specs.Seeing.{see}
pub use Rattle.adl_ast.specs.Spelling.{IsFileSpelled, limit, opens}
pub use Rattle.adl_ast.specs.declared.file.Import.{Import}
pub use Rattle.adl_ast.specs.declared.source.SourceFile.{SourceFile}
pub use Rattle.adl_import.specs.Folding.{file_path, folded, import_name, in_folder, is_absolute, is_dropped, is_import_path, is_in_folder, is_plain, is_slash, is_up, one_up, path_text, root_name, up, with_part, with_parts}
pub use Rattle.adl_import.specs.Imports.{folder_of, import_of, imports_in, imports_of, is_built_in, name_given}
pub use Rattle.adl_import.specs.Loaded.{AlikeInTurns, IsClean, IsFirst, IsLoaded, IsLoadedBy, IsLoadedFrom, IsRefusedRoot, IsTurnOf}
pub use Rattle.adl_import.specs.Parts.{inner_first, parts_of}
pub use Rattle.adl_import.specs.Sources.{AlikeAsRead, AreFilesOf, IsFileOf, IsSource, Meeting, file_limit, files_limit, firsts, is_known, meeting_at, meeting_of, meetings_of, met, names, root_place}
pub use Rattle.adl_import.specs.Taking.{AlikeInNext, AreUtf8, Each, IsParsed, IsRead, IsTakenIn, IsTurn}
pub use Rattle.adl_import.specs.Turns.{IsReadFault, IsTurnFault, Turns, absent, and_then, fault_at, first, importing, lexing, meet, meet_given, met_in, next, parsing, reading, take_import, take_imports, too_long}
pub use Rattle.adl_lexer.specs.Lexes.{IsFirstFault, Lexes}
pub use Rattle.adl_parse.specs.Files.{IsFileIn}
pub use Rattle.cam_base.proofs.Errors.{err_is}
pub use Rattle.cam_base.proofs.Lists.{snoc_same}
pub use Rattle.cam_base.specs.Unread.{SourceError, yields}
pub use Rattle.cam_base.specs.declared.code.Code.TheVariants.{BadPath, Limit, NoFile}
pub use Rattle.cam_base.specs.declared.place.Fault.{Fault}
pub use Rattle.cam_base.specs.declared.place.Place.{Place}
pub use Rattle.cam_base.specs.declared.token.Token.{Token}
pub use Rattle.cam_io.specs.Contents.{Contents}
pub use Rattle.cam_io.specs.Reading.{InAll, KeepsFiles, LearnsOnly}
pub use Rattle.std.proofs.Common.{Bool, Bor, Err, IsTrue, List, None, Ok, Option, Result, Some, [], ap, append_assoc, arith, codes, cond, drop, drop-cons, false, filter, get_or, inl, inr, is_some, length, map, not, refl, reverse, rules, subst, suc}
pub use Rattle.std.proofs.Common.{sym, take, tests, true, true≢false, zero, ℕ, ◌++◌, ◌+◌, ◌-◌, ◌<◌, ◌||◌, ◌↔◌, ◌∙◌, ◌∷◌, ◌≡◌, ◌≤◌, ◌⊎◌}
pub use Rattle.std.proofs.lemmas.Bool.{and_parts, eq-eqb, eqb-true, false_from_ne_true, le-ltb, lt-ltb, ltb-false, ltb-true, ne_eqb, or_parts, or_right}
pub use Rattle.std.proofs.lemmas.Grind.{flat_map-append}
pub use Rattle.std.proofs.lemmas.List.{append-nil, length-append, length-map, map-append, reverse-append}
pub use Rattle.std.proofs.lemmas.Option.{same_Some, slice_get_within}
pub use Rattle.std.proofs.lemmas.Slice.Eq.{bytes_eq-Decides}
pub use Rattle.std.proofs.lemmas.Str.{IsCharBoundary-after_ascii, IsCharBoundary-before_ascii, IsUtf8-append, IsUtf8-drop, IsUtf8-from_is_utf8, IsUtf8-nil, IsUtf8-take, is_utf8-from_IsUtf8}
pub use Rattle.std.specs.FinMap.{get}
pub use Rattle.std.specs.List.{flat_map, join_with_byte, list_any, onto_first, slice_get, slice_split}
pub use Rattle.std.specs.Map.{lookup}
pub use Rattle.std.specs.Option.{IsSome, option_and_then, option_to_list}
pub use Rattle.std.specs.Str.{IsUtf8, bytes_eq, is_utf8}
