-- The names that most proofs cite, passed on from one place. Declares nothing.
pub use Rattle.authorities.specs.Authorities.{authority_of, text_of}
pub use Rattle.authorities.specs.declared.authority.Authority.{Authority}
pub use Rattle.authorities.specs.declared.authority.Authority.TheVariants.{AsyncSend, Call, Control, Grant, GrantBack, Handle, Read, Receive, Reply, Reset, SyncSend, Write}
pub use Rattle.cam_base.proofs.Bytes.{bytes_eq-refl, bytes_eq-sym}
pub use Rattle.cam_base.proofs.Decimals.{digits-decimal, is_decimal-decimal, number_value-decimal}
pub use Rattle.cam_base.proofs.Errors.{passed_on}
pub use Rattle.cam_base.proofs.Options.{neither, option_or-assoc, option_or-cond, option_or-none}
pub use Rattle.cam_base.specs.Fields.{fields}
pub use Rattle.cam_base.specs.LineFaults.{IsRefusal, Wrong, at_line}
pub use Rattle.cam_base.specs.Lines.{Line, is_silent, lines, placed, telling}
pub use Rattle.cam_base.specs.LinesLeft.{line_of, lines_left}
pub use Rattle.cam_base.specs.Names.{is_letter, is_name, is_word, is_word_byte}
pub use Rattle.cam_base.specs.Numbers.{is_decimal, is_digit, number_value}
pub use Rattle.cam_base.specs.declared.error.NoMemory.{NoMemory}
pub use Rattle.cam_base.specs.declared.error.Refused.{Refused}
pub use Rattle.cam_base.specs.declared.text_fault.TextCode.TheVariants.{PolicyLimit, PolicySyntax}
pub use Rattle.cam_base.specs.declared.text_fault.TextFault.{TextFault}
pub use Rattle.cam_io.proofs.Saying.{said_all, says_line, says_lines, says_more, says_nothing, says_then}
pub use Rattle.cam_io.specs.Saying.{Says}
pub use Rattle.cap_model.proofs.EdgeOrder.{same_edge_self, same_edge_true}
pub use Rattle.cap_model.proofs.TableMembers.{has_at, one_table}
pub use Rattle.cap_model.specs.Edges.{same_edge}
pub use Rattle.cap_model.specs.EdgesLeft.{edges_left}
pub use Rattle.cap_model.specs.Policies.{IsPolicy, NumbersDiffer, is_label_byte, is_label_name, label_name}
pub use Rattle.cap_model.specs.Tables.{IsSorted, has}
pub use Rattle.cap_model.specs.declared.edge.Edge.{Edge}
pub use Rattle.cap_model.specs.declared.policy.Policy.{Policy}
pub use Rattle.name_tables.specs.Naming.{spread_found}
pub use Rattle.policy_text.specs.EdgeLines.{apart_line}
pub use Rattle.policy_text.specs.Entries.{Entry, Number, edge, edge_entry, entry_of, label, label_entry, long_entry, object, object_entry, short_entry, value}
pub use Rattle.policy_text.specs.EntriesRead.{meant, told_line, told_lines}
pub use Rattle.policy_text.specs.KnownNumbers.{IsNear, IsSmall, knows}
pub use Rattle.policy_text.specs.Labelled.{IsLabelling, first_unlabelled, object_label, unlabelled}
pub use Rattle.policy_text.specs.LinesSeen.{HasEdges, HasFewEdges, HasRoom, IsLineJudged, IsSeen, Takes, what}
pub use Rattle.policy_text.specs.Numbers.{narrow, within}
pub use Rattle.policy_text.specs.PartsBuilt.{Builds, IsBuilt, IsPolicyOf, built_edge, built_label, built_object}
pub use Rattle.policy_text.specs.PolicyFaults.{Told, edges_limit, fault_at, first_wrong, gives, is_edge, is_label, is_new_edge, is_object, is_past, labels_object, names_label, new_edges, says_edge, wrong, wrong_entry}
pub use Rattle.policy_text.specs.PolicyLines.{edge_line, label_line, object_line}
pub use Rattle.policy_text.specs.PolicyTexts.{AreLabelled, IsAnswer, IsCertRead, IsCertText, IsFault, IsPolicyRead, IsPolicyText, SaysEdges, at_start, body, by_number, bytes_limit, cert_lines, edge_of, first_cert_fault, first_fault}
pub use Rattle.policy_text.specs.PolicyTexts.{first_policy_fault, form_fault, has_label, head_fault, header, is_headed, is_labelled, label_of, label_value, object_of, policy_lines, said, told, told_of}
pub use Rattle.policy_text.specs.TextsRead.{AreNoted, FindsFault, Notes}
pub use Rattle.policy_text.specs.WordSets.{IsAdded}
pub use Rattle.policy_text.specs.declared.kind.Kind.{Kind}
pub use Rattle.policy_text.specs.declared.parts.Parts.{Parts}
pub use Rattle.policy_text.specs.declared.seen.Seen.{Seen}
pub use Rattle.policy_text.specs.declared.words.Words.{Words}
pub use Rattle.std.proofs.Common.{Bool, Err, IfSome, List, None, Ok, Option, Result, Some, [], ap, append_assoc, arith, codes, cond, count_by, decimal, drop, false, fold, get_or, inl, inr, is_some, leb, length, map, min, nat_le, nat_lt, not, refl}
pub use Rattle.std.proofs.Common.{rules, subst, suc, sym, take, true, true≢false, ℕ, ◌&&◌, ◌*◌, ◌++◌, ◌+◌, ◌-◌, ◌<◌, ◌==◌, ◌^◌, ◌||◌, ◌∙◌, ◌∷◌, ◌≡◌, ◌≢◌, ◌≤◌}
pub use Rattle.std.proofs.Math.Bool.{or-false, or_assoc, or_comm}
pub use Rattle.std.proofs.lemmas.Bool.{and_parts, cases_lt, eqb-true, ltb-true, or_parts}
pub use Rattle.std.proofs.lemmas.Bool.Decides.{Decides-eqb, nat_tests}
pub use Rattle.std.proofs.lemmas.List.{append-nil, at_drop_more, drop_all, drop_more, length-append, length-drop, map_more, map_push, take-map, take_all}
pub use Rattle.std.proofs.lemmas.List.Elements.{All-append, All-cons, All-from_get_or, All-head, All-nil, All-push, All-tail, All-weaker, filter_map-append}
pub use Rattle.std.proofs.lemmas.List.Folds.{list_any-append, list_any_more}
pub use Rattle.std.proofs.lemmas.List.Kept.{AllPairs-cons}
pub use Rattle.std.proofs.lemmas.List.Splits.{length-slice_split, slice_split_at, slice_split_first, slice_split_none}
pub use Rattle.std.proofs.lemmas.List.Sums.{fails_before_first, fold-append, sum_by-append, sum_by-cons, sum_by-take-le}
pub use Rattle.std.proofs.lemmas.Slice.Eq.{bytes_eq-Decides}
pub use Rattle.std.specs.BTreeMap.{insert_entry, is_at}
pub use Rattle.std.specs.BTreeSet.{BTreeSet, Updates, contains}
pub use Rattle.std.specs.List.{All, AllPairs, filter_map, flat_map, list_all, list_any, position, position_or_len, slice_split}
pub use Rattle.std.specs.Option.{is_none, option_map, option_map_or, option_or, unwrap_or}
pub use Rattle.std.specs.Ordering.{nat_cmp}
pub use Rattle.std.specs.Result.{IsErrAnd, OnOk}
pub use Rattle.std.specs.Str.{bytes_eq}
