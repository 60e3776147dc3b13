-- The names that most proofs cite, passed on from one place. Declares nothing.
pub use Rattle.clap.proofs.WalkLemmas.{first_value-rows, walk_stopped}
pub use Rattle.clap.specs.Faults.{built_fault, check_fault, defaults_fault, entered_fault, fault_of, is_simple_and_free, level_fault, positional_fault, settle_fault, stray_fault, turn_fault}
pub use Rattle.clap.specs.Kinds.{HasKind, Kinds, or_else}
pub use Rattle.clap.specs.Simple.{App, Shape, app_of_fields, built, entered, is_simple, label_of, new_app, new_rule, new_shape, rows_at, subcommand_of, subcommand_rows}
pub use Rattle.clap.specs.Walk.{Held, Names, Row, Rule, Text, Walk, answers_to, arg_by_index, arg_by_long, arg_by_short, finished, idle, is_empty, is_multiple, is_pending, nothing_held, rows_after, settled, settled_rows, stop_after, subcommand_met}
pub use Rattle.clap.specs.Walk.{takes_several, to_positional, walk, walk_from}
pub use Rattle.clap.specs.Words.{AddsArg, AddsSubcommand, app_of, found_of, rule_of, with_rule, with_subcommand}
pub use Rattle.clap.specs.declared.error.kind.ErrorKind.TheVariants.{OutOfMemory, UnknownArgument}
pub use Rattle.command_words.specs.Clap.{bare, leaf, made_of, reader, slot}
pub use Rattle.command_words.specs.Words.{AreUtf8, command_of, count_of, is_dashed, of_count, of_four, of_one, of_three, of_two, read_words, taken}
pub use Rattle.command_words.specs.declared.command.Command.{Command}
pub use Rattle.std.proofs.Common.{Bool, List, None, Option, Some, String, [], ap, ap₂, arith, codes, cond, false, get_or, inl, inr, is_some, length, map, min, not, option_map, refl, rules, string_bytes, subst, sym, take, take_all, true, true≢false}
pub use Rattle.std.proofs.Common.{ℕ, ⊎_elim, ◌&&◌, ◌++◌, ◌+◌, ◌<◌, ◌==◌, ◌||◌, ◌∙◌, ◌∷◌, ◌≡◌, ◌≤◌, ◌⊎◌}
pub use Rattle.std.proofs.Math.Bool.{and-false, or-false}
pub use Rattle.std.proofs.lemmas.Option.{same_Some}
pub use Rattle.std.proofs.lemmas.Result.{IfOk-weaker, MatchResult-weaker}
pub use Rattle.std.proofs.lemmas.Slice.Eq.{bytes_eq-Decides}
pub use Rattle.std.proofs.lemmas.Str.{IsCharBoundary-after_ascii, IsUtf8-drop, IsUtf8-string_bytes, encodes-chars}
pub use Rattle.std.specs.Borrow.{Bor}
pub use Rattle.std.specs.List.{find, fold, list_all}
pub use Rattle.std.specs.Prelude.{Box, Err, IfOk, MatchResult, Ok, Result, option_and_then, slice_get}
pub use Rattle.std.specs.Str.{IsUtf8, bytes_eq, chars}
