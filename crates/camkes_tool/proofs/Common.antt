-- The names that most proofs cite, passed on from one place. Declares nothing.
pub use Rattle.arch_compile.proofs.OneAnswer.{build_first, builds_same, none_first, one_first}
pub use Rattle.arch_compile.proofs.Soundness.{build_sound}
pub use Rattle.arch_compile.specs.BuildTexts.{AreNamedBy, build_summary, texts_script}
pub use Rattle.arch_compile.specs.Built.{IsBuildOf, system_tables}
pub use Rattle.arch_compile.specs.Sound.{object_labels}
pub use Rattle.arch_compile.specs.declared.building.Build.{Build}
pub use Rattle.arch_compile.specs.declared.names.TextNames.{TextNames}
pub use Rattle.arch_compile.specs.declared.summary.Summary.{Summary}
pub use Rattle.cam_base.proofs.NumberedLists.{somes_one}
pub use Rattle.cam_base.specs.Unread.{SourceError, yields}
pub use Rattle.cam_base.specs.declared.error.Unread.TheVariants.{Fault}
pub use Rattle.cam_io.proofs.Saying.{said_all, says_then}
pub use Rattle.cam_io.specs.Causes.{Rose}
pub use Rattle.cam_io.specs.Contents.{Contents}
pub use Rattle.cam_io.specs.Reading.{InAll, LearnsOnly}
pub use Rattle.cam_io.specs.Scripts.{Act, Begin, CutShort, Write, after}
pub use Rattle.cam_io.specs.Sinks.{IsCut, Sink, appended}
pub use Rattle.camkes_tool.specs.Answers.{AreOne, Fits, FitsCompiled, FitsExplained, FitsGenerated, FitsListed, FitsTexts, IsUsage, MayChoose, Tells, command_of, is_chosen, leaves_choice, said_as, script, status_of}
pub use Rattle.camkes_tool.specs.AsRead.{HoldsAsRead, IsReadAs, ReachesText}
pub use Rattle.camkes_tool.specs.Channels.{IsAsBefore, at}
pub use Rattle.camkes_tool.specs.Generated.{IsGenerated, generated_text}
pub use Rattle.camkes_tool.specs.GeneratedFiles.{client_line, clients, from_end, generated, header, root_name}
pub use Rattle.camkes_tool.specs.Learning.{AlikeInCommand}
pub use Rattle.camkes_tool.specs.Statuses.{HasFault, HasNoFault, IsStatus, IsStatusOf, IsStatusOfSource, IsStatusOfTexts, NoneRose}
pub use Rattle.camkes_tool.specs.Theorem.{HoldBuild, HoldSystem, HoldTexts, IsAnswerWritten, IsCertificateWritten, IsLeastOf, IsListText, IsListWritten, IsReportOf, IsReportWritten, IsSafe, IsTableOf, IsTableWritten, IsWritten, SaysYes}
pub use Rattle.camkes_tool.specs.TriosValid.{IsTrioValid}
pub use Rattle.camkes_tool.specs.declared.answer.Answer.{Answer}
pub use Rattle.camkes_tool.specs.declared.answer.Answer.TheVariants.{Compiled, Explained, Faulted, Generated, Listed, NoMemory, ReadFault, Refused, Told, Usage}
pub use Rattle.cap_machine.specs.Runs.{Reaches, Run}
pub use Rattle.cap_machine.specs.declared.step.Step.{Step}
pub use Rattle.cap_model.specs.Canonical.{canonical}
pub use Rattle.cap_model.specs.declared.edge.Edge.{Edge}
pub use Rattle.cap_model.specs.declared.policy.Policy.{Policy}
pub use Rattle.cap_model.specs.declared.spec.Spec.{Spec}
pub use Rattle.capdl_text.proofs.Unique.{no_fault_of_text, one_spec}
pub use Rattle.capdl_text.specs.Texts.{Text}
pub use Rattle.cert_check.proofs.Keeps.{runs_stay}
pub use Rattle.cert_check.specs.Valid.{Stays, Valid}
pub use Rattle.command_words.specs.declared.command.Command.{Command}
pub use Rattle.command_words.specs.declared.command.Command.TheVariants.{Audit, Certify, Check, Compile, Explain, Generate, Plan, Replay, Sections}
pub use Rattle.explain.specs.Answers.{answer_text, is_assigned}
pub use Rattle.flow_model.proofs.Separated.{separated}
pub use Rattle.policy_text.specs.EdgeLines.{LabelNames, apart_lines}
pub use Rattle.policy_text.specs.Labelled.{IsLabelling, first_unlabelled, object_label}
pub use Rattle.policy_text.specs.PolicyLines.{cert_text, policy_text}
pub use Rattle.policy_text.specs.PolicyTexts.{IsCertRead, IsCertText, IsPolicyRead, IsPolicyText, first_cert_fault}
pub use Rattle.reach_laws.specs.Plain.{HoldsPlain, IsPlainStep}
pub use Rattle.source_commands.proofs.OneAnswer.{one_explained, one_listing}
pub use Rattle.source_commands.specs.Explained.{IsExplained}
pub use Rattle.source_commands.specs.Listed.{IsListed, listing_text}
pub use Rattle.source_commands.specs.declared.listing.Listing.{Listing}
pub use Rattle.std.proofs.Common.{Bool, Err, List, None, Ok, Option, Result, Some, [], ap, arith, codes, cond, decimal, false, inl, inr, length, map, not, refl, rules, set, string_bytes, subst, sym, take, true, ℕ, ⊎_elim, ◌++◌, ◌+◌, ◌<◌, ◌==◌, ◌∙◌}
pub use Rattle.std.proofs.Common.{◌∷◌, ◌≡◌, ◌≢◌, ◌≤◌, ◌⊎◌}
pub use Rattle.std.proofs.lemmas.List.{append-nil, append_assoc, map-id}
pub use Rattle.std.proofs.lemmas.Option.{same_Some}
pub use Rattle.std.specs.Cmp.Derive.{one_truth}
pub use Rattle.std.specs.List.{Contains, flat_map, range_with_len}
pub use Rattle.system_spec.specs.Tables.{Tables}
pub use Rattle.text_commands.proofs.OneAnswer.{audited_one, certified_one, checked_one, planned_one, ran_one, tabled_one}
pub use Rattle.text_commands.specs.Codes.{tell_elf, tell_text, tell_untyped}
pub use Rattle.text_commands.specs.Commands.{IsAudited, IsCert, IsCertified, IsChecked, IsPlanned, IsPolicy, IsRun, IsSystem, IsTabled}
pub use Rattle.text_commands.specs.InputErrors.{InputError}
pub use Rattle.text_commands.specs.Inputs.{AlikeAsRead, AlikeInInputs, Holds, IsInput, IsTold, Turn}
pub use Rattle.text_commands.specs.OneAnswer.{AreOneButChoice, answer_but_choice, but_choice}
pub use Rattle.text_commands.specs.Outcomes.{is_well, is_yes, text_of}
pub use Rattle.text_commands.specs.declared.fault.InputFault.{InputFault}
pub use Rattle.text_commands.specs.declared.outcome.Outcome.{Outcome}
