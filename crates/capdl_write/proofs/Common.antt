-- The names that most proofs cite, passed on from one place. Declares nothing.
pub use Rattle.cam_base.proofs.Loops.{Eats, behind_eats, eats}
pub use Rattle.cam_base.proofs.Repeats.{many_more, many_none}
pub use Rattle.cam_base.specs.Form.{among, behind}
pub use Rattle.cam_base.specs.Hex.{hex_text}
pub use Rattle.cam_base.specs.Names.{is_letter, is_name, is_word_byte}
pub use Rattle.cam_base.specs.Numbers.{is_decimal, is_digit, is_hexadecimal, number_value}
pub use Rattle.cam_base.specs.Reading.{many, starts, whole}
pub use Rattle.cam_io.proofs.Saying.{said_all, says_line, says_lines, says_nothing, says_then}
pub use Rattle.cam_io.specs.Saying.{Says}
pub use Rattle.cap_model.proofs.Eaches.{Each, each_then}
pub use Rattle.cap_model.proofs.Kept.{none_is_root, rise_tail}
pub use Rattle.cap_model.specs.Canonical.{arch_word, buffer_line, canonical, cap_end, elf_field, entry_line, entry_text, fill_field, frame_line, has_slot, holder_text, irq_line, irq_text, level_word, named_line, object_line, paddr_field, params}
pub use Rattle.cap_model.specs.Canonical.{slot_line, slots_text, tcb_line, tcb_text}
pub use Rattle.cap_model.specs.Kept.{IsKept, differ, fits, fits_as, fits_kind, if_any, keeps, keeps_fill, keeps_slots, keeps_table, keeps_tcb, names_differ, rise, within}
pub use Rattle.cap_model.specs.Kinds.{has_badge, is_at, is_kind, is_root_object, is_space_root, kind_at, kind_of_object, kind_rights, same_kind}
pub use Rattle.cap_model.specs.Levels.{child, size}
pub use Rattle.cap_model.specs.Lookup.{entry_name, entry_object, name_at, object_at}
pub use Rattle.cap_model.specs.RightsWord.{has_rights, letter, rights_word}
pub use Rattle.cap_model.specs.declared.cap.Cap.{Cap}
pub use Rattle.cap_model.specs.declared.kind.Kind.{Kind}
pub use Rattle.cap_model.specs.declared.level.Arch.{Arch}
pub use Rattle.cap_model.specs.declared.level.Arch.TheVariants.{Aarch64, Arm11}
pub use Rattle.cap_model.specs.declared.level.Level.{Level}
pub use Rattle.cap_model.specs.declared.level.Level.TheVariants.{Directory, Global, Table, Upper}
pub use Rattle.cap_model.specs.declared.object.Fill.{Fill}
pub use Rattle.cap_model.specs.declared.object.Object.{Object}
pub use Rattle.cap_model.specs.declared.object.Object.TheVariants.{CNode, Endpoint, Frame, Irq, Notification, Pages, Thread}
pub use Rattle.cap_model.specs.declared.object.Tcb.{Tcb}
pub use Rattle.cap_model.specs.declared.rights.Rights.{Rights}
pub use Rattle.cap_model.specs.declared.spec.Entry.{Entry}
pub use Rattle.cap_model.specs.declared.spec.Spec.{Spec}
pub use Rattle.capdl_text.proofs.Decides.{left_out_is, spec_decides}
pub use Rattle.capdl_text.proofs.Eats.{holder_eats, irq_eats, next_frame_field_eats, object_eats, param_eats, slot_eats}
pub use Rattle.capdl_text.proofs.Tokens.{digits_word, number_word, token_at, word_or}
pub use Rattle.capdl_text.specs.Codes.{mark_code, name_codes, number_code, token_code, word_code}
pub use Rattle.capdl_text.specs.Forms.{Rule, arch_form, holder_form, irq_form, key_codes, left_out_line, next_frame_field, object_form, param_form, slot_form, thread_field_form}
pub use Rattle.capdl_text.specs.KindField.{has_key, holds, irq_off, kind_fields, kind_off, kind_takes, off_in, param_off, slot_off, takes, thread_value_off}
pub use Rattle.capdl_text.specs.Knowing.{Knows, known_as, known_from, knows, node_size}
pub use Rattle.capdl_text.specs.Meaning.{badge_said, cap_said, entry_said, fields_from, fill_said, held, lines_from, named_from, no_tcb, notification_said, object_said, paddr_said, place_or, rights_said, slots_from, spec_of, thread_said}
pub use Rattle.cam_base.specs.Quoted.{inner}
pub use Rattle.capdl_text.specs.Seeing.{rights_of}
pub use Rattle.capdl_text.specs.SlotRange.{key_past, past_in, slot_ranges, slots_past}
pub use Rattle.capdl_text.specs.Spelling.{IsSpecSpelled, opens, reads}
pub use Rattle.capdl_text.specs.TokenFaults.{Found, after_run, after_text, digits_fault, is_left_out_word, is_line_byte, is_star, mark_fault, run, unless, word_fault}
pub use Rattle.capdl_text.specs.TokenKinds.{digits_kind, ends_text, is_end, mark_of}
pub use Rattle.capdl_text.specs.Twice.{fields_twice, irq_keyed, keys_after, keys_twice, names_after, params_twice, slot_keyed, thread_keyed, twice_in, twices}
pub use Rattle.capdl_text.specs.Unknown.{unknown, unknown_in, unknowns}
pub use Rattle.capdl_text.specs.Words.{word_of}
pub use Rattle.capdl_text.specs.declared.known.Known.{Known}
pub use Rattle.capdl_text.specs.declared.seen.Seen.{Seen}
pub use Rattle.capdl_text.specs.declared.token.Span.{Span}
pub use Rattle.capdl_text.specs.declared.token.Token.{Token}
pub use Rattle.capdl_text.specs.declared.tree.Holder.{Holder}
pub use Rattle.capdl_text.specs.declared.tree.Id.{Id}
pub use Rattle.capdl_text.specs.declared.tree.Number.{Number}
pub use Rattle.capdl_text.specs.declared.tree.Param.{Param}
pub use Rattle.capdl_text.specs.declared.tree.SlotKey.{SlotKey}
pub use Rattle.capdl_text.specs.declared.tree.SlotLine.{SlotLine}
pub use Rattle.capdl_text.specs.declared.tree.ThreadField.{ThreadField}
pub use Rattle.capdl_write.specs.Canon.{brace_l, brace_r, buffer_pieces, cap_pieces, caps_pieces, colon, comma, dec, elf_pieces, fill_pieces, held_irq, held_pieces, held_slots, held_tcb, hex, holder_pieces, holders_pieces, irqs_pieces, last_pieces}
pub use Rattle.capdl_write.specs.Canon.{named_pieces, object_pieces, objects_pieces, paddr_pieces, paren_r, pieces, quoted, slots_pieces, square_l, square_r, target_pieces, tcb_pieces, tcb_slots, word}
pub use Rattle.capdl_write.specs.Pieces.{Fine, Piece, all_blank, goes_on, laid, runs_on, tokens}
pub use Rattle.capdl_write.specs.Writable.{IsWritable, are_slots, caps_of, is_fill, is_laid, is_number, is_plain, is_tcb, is_word, some}
pub use Rattle.std.proofs.Common.{Bool, List, None, Ok, Option, Some, [], ap, append_assoc, arith, cond, drop, false, get_or, inl, inr, is_some, length, map, refl, rules, slice_get, subst, suc, sym, take, true, zero, zero-add, ℕ, ◌++◌, ◌+◌, ◌-◌, ◌<◌}
pub use Rattle.std.proofs.Common.{◌^◌, ◌∙◌, ◌∷◌, ◌≡◌, ◌≤◌, ◌⊎◌}
pub use Rattle.std.proofs.lemmas.Bool.{and_from, and_parts, cases_Bool, eqb-true, ltb-true, not-true}
pub use Rattle.std.proofs.lemmas.Bool.Decides.{nat_tests}
pub use Rattle.std.proofs.lemmas.List.{append-nil, drop_all, get_or_default, length-append, take_at}
pub use Rattle.std.proofs.lemmas.Option.{same_Some}
pub use Rattle.std.proofs.lemmas.Slice.Eq.{bytes_eq-Decides}
pub use Rattle.std.specs.List.{flat_map, list_all, list_any}
pub use Rattle.std.specs.Option.{option_map}
pub use Rattle.std.specs.Prelude.{codes, decimal, leb, nat_lt, not, sum, ◌%◌, ◌&&◌, ◌==◌, ◌||◌}
pub use Rattle.std.specs.Str.{bytes_eq}
