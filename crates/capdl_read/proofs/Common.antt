-- The names that most proofs cite, passed on from one place. Declares nothing.
pub use Rattle.cam_base.proofs.Errors.{passed_on}
pub use Rattle.cam_base.proofs.Lists.{cond_nil, drop_first, flat_map_nil, nil_append}
pub use Rattle.cam_base.proofs.Loops.{behind_eats, fails, goes_on, is_done, with_front}
pub use Rattle.cam_base.proofs.Options.{is_some-option_or, option_or-none}
pub use Rattle.cam_base.specs.Reading.{behind_one, list_of, many, whole}
pub use Rattle.cam_base.specs.declared.error.Refused.{Refused}
pub use Rattle.cam_base.specs.declared.text_fault.TextCode.TheVariants.{CapdlLimit, CapdlTwice, CapdlUnknown}
pub use Rattle.cam_base.specs.declared.text_fault.TextFault.{TextFault}
pub use Rattle.cap_model.specs.Kept.{IsKept, differ, fits, fits_as, fits_kind, if_any, keeps, keeps_cnode, keeps_fill, keeps_lines, keeps_slots, keeps_table, keeps_tcb, rise, within}
pub use Rattle.cap_model.specs.Kinds.{has_badge, is_at, is_kind, is_root_object, is_space_root, kind_at, kind_of_object, kind_rights, same_kind}
pub use Rattle.cap_model.specs.declared.cap.Cap.{Cap}
pub use Rattle.cap_model.specs.declared.kind.Kind.{Kind}
pub use Rattle.cap_model.specs.declared.level.Arch.{Arch}
pub use Rattle.cap_model.specs.declared.object.Tcb.{Tcb}
pub use Rattle.cap_model.specs.declared.spec.Entry.{Entry}
pub use Rattle.cap_model.specs.declared.spec.Spec.{Spec}
pub use Rattle.capdl_read.specs.Building.{AreBitsFew, all_named, entry_of, first_numbered, numbered_from, object_of, slot_said, slots_or, slots_told}
pub use Rattle.capdl_read.specs.Parsing.{IsParsed, IsTreeRead}
pub use Rattle.capdl_read.specs.Rising.{is_above, rises}
pub use Rattle.capdl_read.specs.declared.held.Slot.{Slot}
pub use Rattle.capdl_text.proofs.Below.{IsBelow}
pub use Rattle.capdl_text.proofs.Least.{least-empty, noted-append, noted-earlier, noted-none}
pub use Rattle.capdl_text.proofs.Noting.{noted_each, noted_then}
pub use Rattle.capdl_text.specs.Codes.{mark_code, token_code}
pub use Rattle.capdl_text.specs.Faults.{at_id, earlier, fault, noted, where_true}
pub use Rattle.capdl_text.specs.Forms.{left_out_line, object_form, spec_line}
pub use Rattle.capdl_text.specs.KindField.{cap_off, fill_off, frame_value_off, holder_off, irq_off, key_off, kind_fields, kind_off, off_in, param_off, params_off, slot_off, slots_off, takes, thread_value_off}
pub use Rattle.capdl_text.specs.Knowing.{Knows, are_bits, kind_said, known_as, known_from, knows, size_said}
pub use Rattle.capdl_text.specs.Lexemes.{AreLexemes, sees, tokens_of}
pub use Rattle.capdl_text.specs.Limits.{limits, most_caps, most_objects, past}
pub use Rattle.capdl_text.specs.Meaning.{badge_said, cap_said, entry_said, fields_from, fill_of, fill_or, fill_said, held, lines_from, named_from, no_tcb, notification_said, numbered_or, object_said, paddr_or, paddr_said, place_or, place_said}
pub use Rattle.capdl_text.specs.Meaning.{put_field, put_named, put_slot, rights_said, slots_from, slots_said, spec_of, thread_said}
pub use Rattle.capdl_text.specs.SlotRange.{key_past, past_in, size_of, slot_ranges, slots_past}
pub use Rattle.capdl_text.specs.Spelling.{IsSpecSpelled, IsSpelledBy, opens, reads}
pub use Rattle.capdl_text.specs.Texts.{IsRead, Text, code_of, is_long, of_syntax, of_tokens, of_tree, place_at, syntax_fault}
pub use Rattle.capdl_text.specs.TreeFaults.{faults_by, first_tree_fault, tree_faults}
pub use Rattle.capdl_text.specs.Twice.{Keyed, fields_twice, irq_keyed, keys_after, keys_twice, names_after, names_twice, params_twice, twice_in, twices}
pub use Rattle.capdl_text.specs.Unknown.{unknown, unknown_in, unknowns}
pub use Rattle.capdl_text.specs.declared.known.Known.{Known}
pub use Rattle.capdl_text.specs.declared.seen.Seen.{Seen}
pub use Rattle.capdl_text.specs.declared.token.Lexeme.{Lexeme}
pub use Rattle.capdl_text.specs.declared.token.Token.{Token}
pub use Rattle.capdl_text.specs.declared.tree.FrameField.{FrameField}
pub use Rattle.capdl_text.specs.declared.tree.Holder.{Holder}
pub use Rattle.capdl_text.specs.declared.tree.Id.{Id}
pub use Rattle.capdl_text.specs.declared.tree.IrqLine.{IrqLine}
pub use Rattle.capdl_text.specs.declared.tree.KindLine.{KindLine}
pub use Rattle.capdl_text.specs.declared.tree.KindLine.TheVariants.{CNode, Endpoint, Frame, Irq, Notification, Pages, Thread}
pub use Rattle.capdl_text.specs.declared.tree.ObjectLine.{ObjectLine}
pub use Rattle.capdl_text.specs.declared.tree.SlotKey.{SlotKey}
pub use Rattle.capdl_text.specs.declared.tree.SlotLine.{SlotLine}
pub use Rattle.capdl_text.specs.declared.tree.SpecTree.{SpecTree}
pub use Rattle.capdl_text.specs.declared.tree.ThreadField.{ThreadField}
pub use Rattle.name_tables.specs.Keys.{Key, has_key, same_key}
pub use Rattle.name_tables.specs.Naming.{spread_found}
pub use Rattle.std.proofs.Common.{Bool, Equal, Err, Greater, Less, List, None, Ok, Option, Result, Some, [], add-one, ap, append_assoc, arith, cond, drop, false, get_or, inl, inr, is_some, length, map, refl, rules, slice_get, subst, suc, sym, take}
pub use Rattle.std.proofs.Common.{true, zero, ℕ, ◌++◌, ◌+◌, ◌-◌, ◌<◌, ◌^◌, ◌∙◌, ◌∷◌, ◌≡◌, ◌≤◌, ◌⊎◌}
pub use Rattle.std.proofs.lemmas.Bool.{and_from, and_parts, eqb-true, le-ltb, leb-true, ltb-true, not-true, or_parts}
pub use Rattle.std.proofs.lemmas.Bool.Decides.{nat_tests}
pub use Rattle.std.proofs.lemmas.List.{drop_all, length-drop, length-map, take_all}
pub use Rattle.std.proofs.lemmas.Result.{err_from_is_err_and}
pub use Rattle.std.proofs.lemmas.Slice.Eq.{bytes_eq-Decides}
pub use Rattle.std.specs.BTreeMap.{insert_entry}
pub use Rattle.std.specs.List.{AllByRecursion, flat_map, list_all, list_any}
pub use Rattle.std.specs.Option.{option_map, option_or}
pub use Rattle.std.specs.Ordering.{match_ordering, nat_cmp}
pub use Rattle.std.specs.Prelude.{IfOk, leb, nat_lt, not, ◌%◌, ◌&&◌, ◌==◌, ◌||◌}
pub use Rattle.std.specs.Str.{bytes_eq}
