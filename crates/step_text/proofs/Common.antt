-- The names that most proofs cite, passed on from one place. Declares nothing.
pub use Rattle.cam_base.proofs.Options.{neither, option_or-cond, option_or-none}
pub use Rattle.cam_base.specs.Fields.{fields}
pub use Rattle.cam_base.specs.LineFaults.{IsRefusal, Wrong, at_line}
pub use Rattle.cam_base.specs.LineTexts.{texts}
pub use Rattle.cam_base.specs.Lines.{Line, is_silent, lines, placed, telling}
pub use Rattle.cam_base.specs.LinesLeft.{line_of, lines_left}
pub use Rattle.cam_base.specs.Names.{is_letter, is_name, is_word_byte}
pub use Rattle.cam_base.specs.Numbers.{is_digit, number_value}
pub use Rattle.cam_base.specs.Parts.{parts}
pub use Rattle.cam_io.proofs.Saying.{said_all, says_line, says_lines, says_nothing}
pub use Rattle.cam_io.specs.Saying.{Says}
pub use Rattle.cap_machine.specs.declared.step.Step.{Step}
pub use Rattle.cap_model.proofs.Kept.{all_at, kind_is}
pub use Rattle.cap_model.specs.Lookup.{name_at, object_at}
pub use Rattle.cap_model.specs.declared.rights.Rights.{Rights}
pub use Rattle.cap_model.specs.declared.spec.Entry.{Entry}
pub use Rattle.cap_model.specs.declared.spec.Spec.{Spec}
pub use Rattle.std.proofs.Common.{Bool, Err, List, None, Ok, Option, Result, Some, ℕ, [], ap, append_assoc, arith, cond, drop, false, get_or, inl, inr, length, map, refl, rules, set, slice_get, subst, suc, sym, take, true, true≢false, zero, ◌&&◌, ◌*◌, ◌++◌}
pub use Rattle.std.proofs.Common.{◌+◌, ◌<◌, ◌^◌, ◌∙◌, ◌∷◌, ◌≡◌, ◌≤◌, ◌⊎◌}
pub use Rattle.std.proofs.lemmas.Bool.{and_parts, false≢true, leb-true, not-true}
pub use Rattle.std.proofs.lemmas.Bool.Decides.{Decides-eqb, Decides-ltb, nat_tests}
pub use Rattle.std.proofs.lemmas.List.{at_drop_all, at_drop_more, get_or_default, length-append}
pub use Rattle.std.proofs.lemmas.List.Elements.{All-cons, All-head, All-nil, All-tail}
pub use Rattle.std.specs.List.{All, AllByRecursion, filter_map, flat_map, list_all, position, position_from, position_or_len}
pub use Rattle.std.specs.Option.{is_some, option_map, option_or}
pub use Rattle.std.specs.Prelude.{codes, decimal, leb, nat_lt, not, ◌==◌}
pub use Rattle.std.specs.Str.{bytes_eq}
pub use Rattle.step_text.specs.Found.{found_in, named, place_among}
pub use Rattle.step_text.specs.Readable.{IsNamed, IsNumber, IsReadable}
pub use Rattle.step_text.specs.RightsFields.{rights_value}
pub use Rattle.step_text.specs.Spelling.{any_word, copy_value, names, names_behind, spelled, spelled_behind, spelled_by}
pub use Rattle.step_text.specs.StepLines.{call_line, copy_line, grant_line, number_line, numbers_line, reply_line, rights_field, step_line, steps_text, thread_line}
pub use Rattle.step_text.specs.StepTexts.{IsRead, bytes_limit, fault_of, first_fault, first_fault_of, first_unknown, misspelled, past_limit, step_of, steps_of, wrong}
pub use Rattle.step_text.specs.Threads.{is_thread, thread_named}
pub use Rattle.step_text.specs.Verbs.{verb_of}
pub use Rattle.step_text.specs.declared.verb.Verb.{Verb}
pub use Rattle.step_text.specs.declared.verb.Verb.TheVariants.{Bind, Call, Drop, Grant, Map, Put, Reply, ReplyTo, Save, SetCspace, SetVspace, Take}
