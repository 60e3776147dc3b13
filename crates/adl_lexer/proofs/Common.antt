-- The names that most proofs cite, passed on from one place. Declares nothing.
pub use Rattle.adl_lexer.specs.Classes.{after_run, angle_bytes, angle_first, backslash, blanks, class_in, class_of, cross, digits, greater, hex_digits, left_out, left_out_class, left_out_rows, less, letters, line_bytes, line_feed, mark_bytes}
pub use Rattle.adl_lexer.specs.Classes.{mark_class, mark_rows, minus, plain_bytes, quote, run, sign_class, sign_rows, slash, word_bytes}
pub use Rattle.adl_lexer.specs.Gaps.{IsGap, after_comment, after_line, more, none}
pub use Rattle.adl_lexer.specs.Keywords.{IsRowOf, all_keywords, keyword_of, named_by, spelling}
pub use Rattle.adl_lexer.specs.LexFaults.{Found, after_angle, after_byte, after_text, fault_at, is_fraction, is_left_out_word, is_star, less_fault, minus_fault, name_in, number_fault, number_fault_by, or_else, sign_fault, slash_fault, text_fault}
pub use Rattle.adl_lexer.specs.LexFaults.{unless, word_fault}
pub use Rattle.adl_lexer.specs.Lexes.{IsFirstFault, IsTokenAt, LexesFrom, Reached, here, past, place_of}
pub use Rattle.adl_lexer.specs.Pieces.{Fits, IsPiece, after_first, after_slash}
pub use Rattle.adl_lexer.specs.TokenKinds.{Bytes, arrow_line, flat, kind_of_value, kind_or_word, less_line, mark, mark_line, number_line, reads, text_line, token_form, word_kind, word_line}
pub use Rattle.adl_lexer.specs.TokenTexts.{IsTextOf, mark_text, text_at}
pub use Rattle.adl_lexer.specs.declared.piece.Piece.{Piece}
pub use Rattle.cam_base.proofs.Laws.{IsRead-one, consumes, no_nil, ok_is, spelled_starts}
pub use Rattle.cam_base.proofs.Lists.{longer_front, take-front}
pub use Rattle.cam_base.proofs.Options.{none_is_not}
pub use Rattle.cam_base.proofs.Repeats.{and_more, many_more, many_none}
pub use Rattle.cam_base.proofs.TerminalCodes.{among-left, among-right, apart_none, if_false, if_true, true_is_not_false}
pub use Rattle.cam_base.proofs.Whole.{Exact, exact}
pub use Rattle.cam_base.specs.Comments.{after_close}
pub use Rattle.cam_base.specs.Deciding.{can_be_empty, decides, first, further}
pub use Rattle.cam_base.specs.Form.{among}
pub use Rattle.cam_base.specs.Names.{is_letter, is_name, is_word_byte}
pub use Rattle.cam_base.specs.Numbers.{fits, is_decimal, is_digit, is_hex_digit, is_hexadecimal, number_value}
pub use Rattle.cam_base.specs.Reading.{Reader, left, many, one, starts, too_deep, ◌>>=◌}
pub use Rattle.cam_base.specs.Spelling.{Each, Spells}
pub use Rattle.cam_base.specs.declared.code.Code.{Code}
pub use Rattle.cam_base.specs.declared.grammar_error.Stop.{Stop}
pub use Rattle.cam_base.specs.declared.place.Place.{Place}
pub use Rattle.cam_base.specs.declared.token.Keyword.{Keyword}
pub use Rattle.cam_base.specs.declared.token.Kind.{Kind}
pub use Rattle.cam_base.specs.declared.token.Token.{Token}
pub use Rattle.std.proofs.Common.{Bool, Err, List, None, Ok, Option, Result, Some, [], add-one, ap, append_assoc, arith, cond, drop, false, get_or, inl, inr, length, refl, rules, subst, suc, sym, take, true, zero, ℕ, ◌++◌, ◌+◌, ◌-◌, ◌<◌, ◌∙◌, ◌∷◌}
pub use Rattle.std.proofs.Common.{◌≡◌, ◌≤◌, ◌⊎◌}
pub use Rattle.std.proofs.lemmas.Bool.{and_parts, cases_Bool, eqb-true, le-leb, leb-true, ltb-false, ne_eqb, not-true, or_cases, or_right}
pub use Rattle.std.proofs.lemmas.List.{append-nil, append_cancel_right, length-append, length-drop, take_all}
pub use Rattle.std.proofs.lemmas.List.Elements.{All-cons, All-nil, Contains-append_left, Contains-append_right, Contains-push}
pub use Rattle.std.proofs.lemmas.Option.{same_Some}
pub use Rattle.std.proofs.lemmas.Slice.Eq.{bytes_eq-Decides}
pub use Rattle.std.specs.List.{All, Contains, list_all, list_any, range_with_len}
pub use Rattle.std.specs.Prelude.{codes, if◌then◌else◌, leb, map, nat_lt, not, ◌&&◌, ◌==◌, ◌||◌, ◌↔◌, ◌≢◌}
pub use Rattle.std.specs.Str.{bytes_eq}
