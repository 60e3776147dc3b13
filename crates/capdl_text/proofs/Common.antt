-- The names that most proofs cite, passed on from one place. Declares nothing.
pub use Rattle.cam_base.proofs.Depth.{IsLine, deep_exact}
pub use Rattle.cam_base.proofs.Lists.{drop_first, longer_front, take-front}
pub use Rattle.cam_base.proofs.Options.{none_is_not}
pub use Rattle.cam_base.proofs.TerminalCodes.{true_is_not_false}
pub use Rattle.cam_base.specs.Comments.{after_close}
pub use Rattle.cam_base.specs.Names.{is_letter, is_word_byte}
pub use Rattle.cam_base.specs.Numbers.{fits, is_decimal, is_digit, is_hex_digit, is_hexadecimal, number_value}
pub use Rattle.cam_base.specs.declared.text_fault.TextCode.{TextCode}
pub use Rattle.cam_base.specs.declared.text_fault.TextFault.{TextFault}
pub use Rattle.cap_model.specs.declared.spec.Spec.{Spec}
pub use Rattle.capdl_text.specs.Codes.{token_code}
pub use Rattle.capdl_text.specs.Faults.{IsIn, at_id, code_number, earlier, least, noted, precedes}
pub use Rattle.capdl_text.specs.Forms.{holder_form, irq_form, left_out_line, next_frame_field, object_form, param_form, slot_form, spec_line, thread_field_form}
pub use Rattle.capdl_text.specs.Gaps.{IsGap, after_dash, after_line, after_slash, is_blank, more, none, one_gap}
pub use Rattle.capdl_text.specs.Lexemes.{kind_with, sees, sort_of, token_of, tokens_of, value_at}
pub use Rattle.capdl_text.specs.Lexes.{IsTokenAt, IsTokenFault, Lexes, LexesFrom, Reached, here, past, place_of}
pub use Rattle.capdl_text.specs.Pieces.{IsPiece, digits_taken, mark_taken, text_taken, word_taken}
pub use Rattle.capdl_text.specs.Spelling.{IsSpecSpelled, opens, reads}
pub use Rattle.capdl_text.specs.Texts.{IsFirstFault, IsRead, Text, is_long, of_syntax, of_tokens, of_tree, syntax_fault, too_long}
pub use Rattle.capdl_text.specs.TokenFaults.{Found, after_run, after_text, fault_at, is_line_byte, is_star, mark_fault, run, unless}
pub use Rattle.capdl_text.specs.TokenKinds.{digits_kind, ends_text, is_end, mark_of}
pub use Rattle.capdl_text.specs.TokensSeen.{see, text_at}
pub use Rattle.capdl_text.specs.Words.{all_fields, field_among, has_letter, is_right, kind_word, part_word, rights_word, slot_word, table_word, word_of}
pub use Rattle.capdl_text.specs.declared.token.Kind.{Kind}
pub use Rattle.capdl_text.specs.declared.token.Lexeme.{Lexeme}
pub use Rattle.capdl_text.specs.declared.token.Mark.{Mark}
pub use Rattle.capdl_text.specs.declared.token.Sort.{Sort}
pub use Rattle.capdl_text.specs.declared.token.Token.{Token}
pub use Rattle.std.proofs.Common.{Bool, Err, List, None, Ok, Option, Result, Some, [], ap, append_assoc, arith, cond, drop, false, get_or, inl, inr, length, map, nat_eq, nat_lt, refl, subst, suc, sym, take, true, true≢false, zero, ℕ, ◌++◌, ◌+◌, ◌-◌}
pub use Rattle.std.proofs.Common.{◌<◌, ◌∙◌, ◌∷◌, ◌≡◌, ◌≤◌, ◌⊎◌}
pub use Rattle.std.proofs.lemmas.Bool.{and_parts, cases_Bool, eqb-true}
pub use Rattle.std.proofs.lemmas.Bool.Decides.{nat_tests}
pub use Rattle.std.proofs.lemmas.List.{append-nil, drop-map, drop_at, length-append, length-drop, length-map, take_at}
pub use Rattle.std.proofs.lemmas.Option.{same_Some}
pub use Rattle.std.proofs.lemmas.Slice.Eq.{bytes_eq-Decides}
pub use Rattle.std.specs.List.{enumerate_from, flat_map, list_all, list_any, slice_get}
pub use Rattle.std.specs.Option.{is_some, option_map, option_map_or, option_or}
pub use Rattle.std.specs.Prelude.{codes, if◌then◌else◌, not, unwrap_or, ◌&&◌, ◌==◌, ◌||◌}
pub use Rattle.std.specs.Str.{bytes_eq}
