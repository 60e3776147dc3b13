-- The names of crates below that the definitions here cite, passed on from one place. Declares nothing.
pub use Rattle.adl_import.specs.Loaded.{AlikeInSource, IsLoaded}
pub use Rattle.arch_compile.specs.BuildTexts.{AreNamedBy, texts_script}
pub use Rattle.arch_compile.specs.Built.{IsBuildOf}
pub use Rattle.arch_compile.specs.Compiled.{AlikeInBuild, IsFirstFault, IsUnread}
pub use Rattle.arch_compile.specs.Sound.{IsSound, object_labels}
pub use Rattle.arch_compile.specs.declared.building.Build.{Build}
pub use Rattle.arch_compile.specs.declared.summary.Summary.{Summary}
pub use Rattle.authorities.specs.declared.authority.Authority.{Authority}
pub use Rattle.cam_base.specs.Texts.{together}
pub use Rattle.cam_base.specs.Unread.{SourceError}
pub use Rattle.cam_base.specs.declared.place.Fault.{Fault}
pub use Rattle.cam_io.specs.Causes.{Rose}
pub use Rattle.cam_io.specs.Contents.{Contents}
pub use Rattle.cam_io.specs.Scripts.{Act, CutShort, Write, after}
pub use Rattle.cam_io.specs.Sinks.{Sink, appended}
pub use Rattle.cap_model.specs.Canonical.{canonical}
pub use Rattle.cap_model.specs.declared.edge.Edge.{Edge}
pub use Rattle.cap_model.specs.declared.object_labels.Labels.{Labels}
pub use Rattle.cap_model.specs.declared.policy.Policy.{Policy}
pub use Rattle.cap_model.specs.declared.spec.Spec.{Spec}
pub use Rattle.capdl_text.specs.Texts.{Text}
pub use Rattle.cert_check.specs.Valid.{Stays, Valid}
pub use Rattle.cert_check.specs.Verdicts.{Judged}
pub use Rattle.cert_check.specs.declared.verdict.Verdict.{Verdict}
pub use Rattle.cert_check.specs.declared.verdict.Verdict.TheVariants.{Yes}
pub use Rattle.command_words.specs.declared.command.Command.{Command}
pub use Rattle.command_words.specs.declared.command.Command.TheVariants.{Audit, Certify, Check, Compile, Explain, Generate, Plan, Replay, Sections}
pub use Rattle.explain.specs.Answers.{answer_text, is_assigned}
pub use Rattle.policy_text.specs.Labelled.{IsLabelling}
pub use Rattle.policy_text.specs.PolicyLines.{cert_text, policy_text}
pub use Rattle.policy_text.specs.PolicyTexts.{IsCertText, IsPolicyText}
pub use Rattle.source_commands.specs.Explained.{IsExplained}
pub use Rattle.source_commands.specs.Listed.{IsListed, IsListing, listing_text}
pub use Rattle.source_commands.specs.declared.listing.Listing.{Listing}
pub use Rattle.std.specs.List.{Contains, flat_map, range_with_len}
pub use Rattle.text_commands.specs.Commands.{IsAudited, IsCertified, IsChecked, IsPlanned, IsRun, IsTabled}
pub use Rattle.text_commands.specs.InputErrors.{InputError}
pub use Rattle.text_commands.specs.Inputs.{AlikeAsRead, AlikeInInputs, Holds}
pub use Rattle.text_commands.specs.Lines.{code_text, place_text, report_text}
pub use Rattle.text_commands.specs.OneAnswer.{IsAnswer, but_choice}
pub use Rattle.text_commands.specs.Outcomes.{is_well, text_of}
pub use Rattle.text_commands.specs.declared.fault.InputFault.{InputFault}
pub use Rattle.text_commands.specs.declared.outcome.Outcome.{Outcome}
pub use Rattle.text_commands.specs.declared.outcome.Outcome.TheVariants.{Audited, Checked, Planned, Ran}
