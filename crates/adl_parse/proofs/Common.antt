-- The names that most proofs cite, passed on from one place. Declares nothing.
pub use Rattle.adl_ast.proofs.Decides.{assembly_closed, assembly_decides, composition_closed, composition_decides, configuration_closed, configuration_decides, file_decides, nested_is, value_closed, value_decides}
pub use Rattle.adl_ast.specs.Codes.{kind_code, mark_code, token_code, without_value}
pub use Rattle.adl_ast.specs.Forms.{Rule, assembly_line, composition_line, configuration_line, entries_line, entry_form, file_line, interface_codes, last_place, nested_line, value_form, value_line, values_line}
pub use Rattle.adl_ast.specs.Seeing.{see, seen_at}
pub use Rattle.adl_ast.specs.Spelling.{IsSpelledBy, limit, nests, opens, reads}
pub use Rattle.adl_ast.specs.declared.file.File.{File}
pub use Rattle.adl_parse.specs.Faults.{IsRefusalOf, fault_of}
pub use Rattle.adl_parse.specs.Files.{IsFileIn, IsSettled}
pub use Rattle.adl_parse.specs.Reads.{Reads}
pub use Rattle.cam_base.proofs.Loops.{behind_none, fails, goes_on, is_done, with_front}
pub use Rattle.cam_base.proofs.Parsed.{ends_within, file_stops, part_at, part_stops}
pub use Rattle.cam_base.proofs.Repeats.{and_more, many_more, many_none}
pub use Rattle.cam_base.proofs.Unique.{file_goes_on, file_stops_once, part_stops_once}
pub use Rattle.cam_base.specs.Deciding.{first}
pub use Rattle.cam_base.specs.Form.{Many, among, behind}
pub use Rattle.cam_base.specs.Gives.{Fails}
pub use Rattle.cam_base.specs.Reading.{starts, whole}
pub use Rattle.cam_base.specs.declared.error.Refused.{Refused}
pub use Rattle.cam_base.specs.declared.grammar_error.ReadError.{ReadError}
pub use Rattle.cam_base.specs.declared.grammar_error.Why.{Why}
pub use Rattle.cam_base.specs.declared.place.Fault.{Fault}
pub use Rattle.cam_base.specs.declared.token.Token.{Token}
pub use Rattle.std.proofs.Common.{Bool, Err, List, Ok, Result, [], ap, cond, drop, false, inl, inr, length, refl, subst, sym, true, ℕ, ◌*◌, ◌++◌, ◌+◌, ◌-◌, ◌∙◌, ◌∷◌, ◌≡◌, ◌≤◌}
pub use Rattle.std.proofs.lemmas.Result.{err_from_is_err_and}
pub use Rattle.std.specs.Prelude.{◌==◌, ◌||◌}
