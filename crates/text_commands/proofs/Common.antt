-- The names that most proofs cite, passed on from one place. Declares nothing.
pub use Rattle.authorities.specs.declared.authority.Authority.{Authority}
pub use Rattle.cam_base.proofs.Errors.{err_is}
pub use Rattle.cam_base.specs.declared.error.Refused.{Refused}
pub use Rattle.cam_base.specs.declared.error.Unread.TheVariants.{Fault, NoMemory, ReadFault}
pub use Rattle.cam_base.specs.declared.text_fault.TextCode.TheVariants.{StepLimit, TooLong}
pub use Rattle.cam_io.proofs.Kept.{keeps_twice}
pub use Rattle.cam_io.proofs.Saying.{said_all, says_line, says_lines, says_nothing, says_then}
pub use Rattle.cam_io.specs.Contents.{Contents}
pub use Rattle.cap_audit.specs.declared.report.AuditReport.{AuditReport}
pub use Rattle.cap_machine.specs.Checks.{checks, first_failing}
pub use Rattle.cap_machine.specs.Runs.{Run}
pub use Rattle.cap_machine.specs.declared.step.Step.{Step}
pub use Rattle.cap_machine.specs.declared.step.Why.{Why}
pub use Rattle.cap_model.proofs.EdgeOrder.{at_most_both, same_edge_true}
pub use Rattle.cap_model.proofs.TableMembers.{one_table}
pub use Rattle.cap_model.specs.Edges.{AtMost, edge, same_edge}
pub use Rattle.cap_model.specs.FitsSpec.{FitsSpec}
pub use Rattle.cap_model.specs.State.{Node, State, boot, irq_at, no_node, no_thread, node_at, thread_at}
pub use Rattle.cap_model.specs.Tables.{Finds, Has, IsSorted, has}
pub use Rattle.cap_model.specs.declared.edge.Edge.{Edge}
pub use Rattle.cap_model.specs.declared.object_labels.Labels.{Labels}
pub use Rattle.cap_model.specs.declared.policy.Policy.{Policy}
pub use Rattle.cap_model.specs.declared.spec.Entry.{Entry}
pub use Rattle.cap_model.specs.declared.spec.Spec.{Spec}
pub use Rattle.capdl_read.proofs.Kept.{kept_text}
pub use Rattle.cert_check.specs.Verdicts.{Judged}
pub use Rattle.cert_check.specs.declared.verdict.Verdict.{Verdict}
pub use Rattle.cert_check.specs.declared.verdict.Verdict.TheVariants.{No, Yes}
pub use Rattle.least_cert.proofs.LeastKeeps.{least_valid, table_keeps}
pub use Rattle.least_cert.specs.LeastCertificate.{CloseRefused, HasMoreThan, IsLeast, KeepsRules}
pub use Rattle.policy_text.specs.Labelled.{IsLabelling, object_label, unlabelled}
pub use Rattle.policy_text.specs.PolicyTexts.{IsCertRead, IsCertText, IsPolicyRead, IsPolicyText}
pub use Rattle.std.proofs.Common.{Bool, Err, List, None, Ok, Option, Result, Some, [], ap, arith, false, find, inl, inr, length, map, nat_lt, refl, rules, slice_get, subst, suc, sym, take, take_all, true, zero, ℕ, ◌&&◌, ◌++◌, ◌+◌, ◌<◌, ◌^◌, ◌||◌}
pub use Rattle.std.proofs.Common.{◌∙◌, ◌∷◌, ◌≡◌, ◌≢◌, ◌≤◌, ◌⊎◌}
pub use Rattle.std.proofs.lemmas.Bool.{and_parts, cases_lt}
pub use Rattle.std.proofs.lemmas.Bool.Decides.{Decides-eqb, nat_tests}
pub use Rattle.std.proofs.lemmas.List.{get_or_default, length-append, length-map, take_more}
pub use Rattle.std.specs.Cmp.Derive.{one_truth}
pub use Rattle.std.specs.List.{All, Contains, filter, filter_map, flat_map, list_all, list_any}
pub use Rattle.std.specs.Option.{is_none, is_some, option_map}
pub use Rattle.std.specs.Prelude.{codes, slice_index, ◌==◌}
pub use Rattle.text_commands.specs.Codes.{tell_elf, tell_text, tell_untyped}
pub use Rattle.text_commands.specs.Commands.{AreSteps, IsAudited, IsCert, IsCertified, IsChecked, IsPlanned, IsPolicy, IsRun, IsSystem, IsTabled}
pub use Rattle.text_commands.specs.Decisions.{HasReport, IsAudit, IsAuditable, IsCertificate, IsCertificateOf, IsPlan, tell_audit, tell_close, tell_plan}
pub use Rattle.text_commands.specs.InputErrors.{InputError}
pub use Rattle.text_commands.specs.Inputs.{Answers, Decided, Holds, IsAbsent, IsErrorOf, IsInput, IsTold, IsTooLong, Then, Turn, most_bytes, of_file}
pub use Rattle.text_commands.specs.Lines.{have_line}
pub use Rattle.text_commands.specs.OneAnswer.{AreOne, AreOneButChoice, IsAnswer, answer_but_choice}
pub use Rattle.text_commands.specs.Replays.{AreEdgesOf, IsReplayed, LeadsTo, StopsAt}
pub use Rattle.text_commands.specs.declared.fault.InputFault.{InputFault}
pub use Rattle.text_commands.specs.declared.outcome.Outcome.{Outcome}
pub use Rattle.text_commands.specs.declared.outcome.Outcome.TheVariants.{Audited, Certified, Checked, Planned, Ran, Tabled}
pub use Rattle.text_commands.specs.declared.replay.Replayed.{Replayed}
pub use Rattle.text_commands.specs.declared.replay.Replayed.TheVariants.{Done, Illegal}
