-- The names that most proofs cite, passed on from one place. Declares nothing.
pub use Rattle.cam_base.specs.Deciding.{apart, can_be_empty, decides, first, further, same}
pub use Rattle.cam_base.specs.Depth.{Begun, Spelled, deep}
pub use Rattle.cam_base.specs.Faults.{IsSyntaxError, IsTooDeep}
pub use Rattle.cam_base.specs.Fields.{fields, spaced_fields}
pub use Rattle.cam_base.specs.Form.{As, Form, Give, Many, Nested, One, Or, Starts, Then, among}
pub use Rattle.cam_base.specs.Gather.{IsIn, before, gather}
pub use Rattle.cam_base.specs.Gives.{Fails, Gives}
pub use Rattle.cam_base.specs.Hex.{glyph, hex_digits}
pub use Rattle.cam_base.specs.LineTexts.{texts}
pub use Rattle.cam_base.specs.Names.{is_letter, is_name, is_word_byte}
pub use Rattle.cam_base.specs.Numbers.{fits, is_decimal, is_digit, is_hex_digit, is_hexadecimal, number_value}
pub use Rattle.cam_base.specs.Parsed.{FileStops, IsFileOf, IsPartOf, PartStops}
pub use Rattle.cam_base.specs.Parts.{parts, parts_from}
pub use Rattle.cam_base.specs.Reading.{Reader, behind_one, both, either, ended, guarded, left, list_of, many, mapped, one, read, read_deep, starts, times, too_deep, whole, ◌>>=◌}
pub use Rattle.cam_base.specs.Spelling.{Begins, Each, Meaning, Spells}
pub use Rattle.cam_base.specs.declared.grammar_error.ReadError.{ReadError}
pub use Rattle.cam_base.specs.declared.grammar_error.Stop.{Stop}
pub use Rattle.cam_base.specs.declared.grammar_error.Why.{Why}
pub use Rattle.cam_base.specs.declared.grammar_error.Why.TheVariants.{TooDeep, Unexpected}
pub use Rattle.std.proofs.Common.{Bool, Equal, Err, Greater, Less, List, None, Ok, Option, Ordering, Result, Some, [], add-one, add_comm, ap, append_assoc, arith, cond, decimal, drop, false, filter, get_or, inl, inr, leb, length, map, nat_lt, refl}
pub use Rattle.std.proofs.Common.{rules, slice_set, sub-one, subst, suc, suc-add, sym, take, tests, true, true≢false, vec_len, zero, zero-add, ℕ, ◌%◌, ◌*◌, ◌++◌, ◌+◌, ◌-◌, ◌/◌, ◌<◌, ◌==◌, ◌^◌, ◌∙◌, ◌∷◌, ◌≡◌, ◌≤◌, ◌⊎◌}
pub use Rattle.std.proofs.lemmas.Bool.{and_from, and_parts, cases_Bool, cases_lt, eqb-true, le-leb, leb-true, lt-ltb, ltb-true, not-true, or_cases, or_right}
pub use Rattle.std.proofs.lemmas.Bool.Decides.{nat_tests}
pub use Rattle.std.proofs.lemmas.Fmt.{decimal-digits_of, decimal_by_steps, decimal_digit, decimal_is_IsNumeral, length-decimal-le}
pub use Rattle.std.proofs.lemmas.Int.Digits.{all_below_base_digits_of, digits_value_push}
pub use Rattle.std.proofs.lemmas.List.{append-nil, append_cancel_left, append_cancel_right, at_drop_all, at_drop_more, drop-drop, drop_at, length-append, length-drop, length-take, length-take-le, map-append, take-append-drop, take_all, take_more}
pub use Rattle.std.proofs.lemmas.List.{take_more_set}
pub use Rattle.std.proofs.lemmas.List.Folds.{flat_map-map, list_all-append}
pub use Rattle.std.proofs.lemmas.Option.{get_or_from_slice_get, slice_get-get_or, slice_get_read, slice_get_within}
pub use Rattle.std.proofs.lemmas.Result.{err_from_is_err_and}
pub use Rattle.std.specs.Char.{digit_value}
pub use Rattle.std.specs.List.{All, AllByRecursion, before_first, cons_option, enumerate_from, filter_map, find, flat_map, list_all, list_any, position, position_from, position_or_len, range_with_len, slice_get, slice_split}
pub use Rattle.std.specs.Option.{is_some, option_map, option_or}
pub use Rattle.std.specs.Prelude.{IfOk, not, sum, ◌&&◌, ◌||◌, ◌↔◌}
pub use Rattle.std.specs.Str.Parse.{digits_value, digits_value_after}
