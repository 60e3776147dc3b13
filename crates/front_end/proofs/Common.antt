-- The names that most proofs cite, passed on from one place. Declares nothing.
pub use Rattle.adl_ast.specs.Seeing.{see, seen_at}
pub use Rattle.adl_import.proofs.Whole.{clean_each, clean_few}
pub use Rattle.adl_import.specs.Folding.{root_name}
pub use Rattle.adl_import.specs.Loaded.{IsLoaded, IsLoadedBy}
pub use Rattle.adl_import.specs.Sources.{AreFilesOf, IsFileOf, IsSource}
pub use Rattle.cam_base.specs.Unread.{SourceError, yields}
pub use Rattle.adl_meaning.proofs.SoundNames.{names_sound}
pub use Rattle.adl_meaning.specs.Prelude.{All, AreFew, AreNamesSound, Fault, File, Refused, Seen, Source, SourceFile, first_flat_fault, first_join_fault, first_name_fault, first_size_fault, flat_of, option_or}
pub use Rattle.adl_meaning.specs.declared.flat.Flat.{Flat}
pub use Rattle.adl_meaning.specs.declared.settled.Settled.{Settled}
pub use Rattle.adl_settings.specs.SettingFaults.{first_setting_fault}
pub use Rattle.adl_settings.specs.Settled.{settled_of}
pub use Rattle.adl_types.specs.TypeFaults.{first_type_fault}
pub use Rattle.arch_policy.specs.Labels.{label_lines, label_numbers}
pub use Rattle.cam_io.specs.Contents.{Contents}
pub use Rattle.cap_model.specs.Tables.{IsSorted, has}
pub use Rattle.cap_model.specs.declared.policy.Policy.{Policy}
pub use Rattle.flat_laws.proofs.FewEnds.{no_first}
pub use Rattle.flat_laws.proofs.ShortTrees.{each_token, ended_token, short_few}
pub use Rattle.front_end.specs.First.{first_front_fault, first_list_fault, name_of_file, source_tables}
pub use Rattle.front_end.specs.Fronts.{IsAssigned, IsFront, IsFrontOf, IsMeaning, IsMeaningOf, IsMeant}
pub use Rattle.front_end.specs.Refusals.{IsFaulted, IsRefused, Refuses}
pub use Rattle.front_end.specs.Steps.{Assigns, HasMeaning, IsWhole, Means, Tells}
pub use Rattle.front_end.specs.declared.phases.FrontEnd.{FrontEnd}
pub use Rattle.front_end.specs.declared.phases.Meaning.{Meaning}
pub use Rattle.std.proofs.Common.{Bool, Err, List, None, Ok, Option, Result, Some, [], ap, append_assoc, arith, false, inl, inr, length, refl, subst, sym, true, true≢false, ℕ, ◌++◌, ◌+◌, ◌<◌, ◌^◌, ◌∙◌, ◌∷◌, ◌≡◌, ◌≤◌}
pub use Rattle.std.proofs.lemmas.List.{length-map}
pub use Rattle.std.specs.Prelude.{IsErr, IsErrAnd, ◌↔◌}
