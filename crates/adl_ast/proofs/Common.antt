-- The names that most proofs cite, passed on from one place. Declares nothing.
pub use Rattle.adl_ast.specs.Codes.{buf_code, key_code, kind_code, mark_code, not_buf_codes, not_void_codes, plain_code, token_code, void_code, without_value, word_codes}
pub use Rattle.adl_ast.specs.Forms.{More, Params, Rule, assembly_line, brackets, composition_line, composition_member_form, configuration_line, dot_word, end_form, ended_form, entry_form, file_line, first_param, instance_form, interface_line}
pub use Rattle.adl_ast.specs.Forms.{interface_of, member_form, more_params, more_words, nested_line, param_form, param_of, params_line, proc_member_form, setting_form, typed_line, typed_of, value_form, value_line, void_params_of}
pub use Rattle.adl_ast.specs.Seeing.{id_of}
pub use Rattle.adl_ast.specs.Spelling.{IsBegun, IsSpelledAtAnyDepth, IsSpelledBy, limit, nests, opens, reads}
pub use Rattle.adl_ast.specs.Written.{interface_written, params_written, typed_written}
pub use Rattle.adl_ast.specs.declared.id.Id.{Id}
pub use Rattle.adl_ast.specs.declared.seen.Seen.{Seen}
pub use Rattle.adl_ast.specs.declared.value.Value.{Value}
pub use Rattle.cam_base.proofs.Completed.{IsSpellable, begun_goes_on, begun_is_front}
pub use Rattle.cam_base.proofs.Depth.{IsLine, deep_exact, deep_spells}
pub use Rattle.cam_base.proofs.GrammarFronts.{begun_front, deep_front, spelling_front}
pub use Rattle.cam_base.proofs.TerminalCodes.{true_is_not_false}
pub use Rattle.cam_base.proofs.Theorems.{one_form}
pub use Rattle.cam_base.specs.Deciding.{decides, further}
pub use Rattle.cam_base.specs.Depth.{Spelled, deep}
pub use Rattle.cam_base.specs.Form.{Form, among, behind}
pub use Rattle.cam_base.specs.Spellable.{parts_have_spellings}
pub use Rattle.cam_base.specs.Spelling.{Meaning, Spells}
pub use Rattle.cam_base.specs.declared.token.Kind.{Kind}
pub use Rattle.std.proofs.Common.{Bool, List, None, Option, Some, [], add_comm, ap, append_assoc, false, inl, inr, length, refl, subst, sym, true, ℕ, ◌++◌, ◌+◌, ◌∙◌, ◌∷◌, ◌≡◌, ◌⊎◌}
pub use Rattle.std.proofs.lemmas.Bool.{cases_Bool}
pub use Rattle.std.proofs.lemmas.List.{append-nil}
pub use Rattle.std.specs.Prelude.{codes, get_or, if◌then◌else◌, ◌==◌, ◌↔◌}
