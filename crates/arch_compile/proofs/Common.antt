-- The names that most proofs cite, passed on from one place. Declares nothing.
pub use Rattle.adl_ast.specs.declared.source.Source.{Source}
pub use Rattle.adl_meaning.specs.Flat.{flat_of}
pub use Rattle.adl_meaning.specs.declared.flat.Flat.{Flat}
pub use Rattle.adl_meaning.specs.declared.settled.Settled.{Settled}
pub use Rattle.adl_settings.specs.Settled.{settled_of}
pub use Rattle.arch_compile.specs.Built.{IsBuildOf, IsMade, labelled, system_tables}
pub use Rattle.arch_compile.specs.Compiled.{IsCompiled, IsFirstFault, IsRefusal}
pub use Rattle.arch_compile.specs.LayoutFaults.{file_of, first_fault, first_imaged_fault, first_layout_fault, found_beside, images_beside, images_from, root_of, spaced, tables_beside}
pub use Rattle.arch_compile.specs.OfSource.{HasLabel, IsOfSource, IsProgramOf}
pub use Rattle.arch_compile.specs.Sound.{BootsText, HasText, IsSound, ReachesText, object_labels}
pub use Rattle.arch_compile.specs.Steps.{Builds, Completes, Finishes, IsBuiltOf, IsImaged, IsLaid, IsMadeOf, Lays, first_laid_fault, policy_tables, with_objects}
pub use Rattle.arch_compile.specs.Summary.{cap_count, capped, is_thread}
pub use Rattle.arch_compile.specs.declared.building.Build.{Build}
pub use Rattle.arch_compile.specs.declared.laying.Layout.{Layout}
pub use Rattle.arch_policy.specs.Labels.{label_lines, label_numbers}
pub use Rattle.arch_policy.specs.Policies.{IsLockEdge, IsPolicyOf, first_edge_fault}
pub use Rattle.arch_policy.specs.Tables.{AreApart, number_of}
pub use Rattle.assigned_laws.proofs.Ranked.{called_line, lines_apart}
pub use Rattle.cam_base.proofs.Gathered.{from_ones, gather_turn}
pub use Rattle.cam_base.proofs.NumberedLists.{at_place, from_get_map, get_map, map_some}
pub use Rattle.cam_base.specs.Gather.{IsIn, gather}
pub use Rattle.cam_base.specs.declared.place.Fault.{Fault}
pub use Rattle.cam_io.proofs.Counts.{rose_after}
pub use Rattle.cam_io.proofs.Scripted.{acts_begin_then, acts_one, fresh_begun, open_begun}
pub use Rattle.cam_io.specs.Causes.{NoneFell, Rose}
pub use Rattle.cam_io.specs.Contents.{Contents}
pub use Rattle.cap_model.specs.Kept.{IsKept}
pub use Rattle.cap_model.specs.ObjectLabels.{label_of}
pub use Rattle.cap_model.specs.Tables.{Has, IsSorted, has}
pub use Rattle.cap_model.specs.declared.edge.Edge.{Edge}
pub use Rattle.cap_model.specs.declared.policy.Policy.{Policy}
pub use Rattle.cap_model.specs.declared.spec.Entry.{Entry}
pub use Rattle.cap_model.specs.declared.spec.Spec.{Spec}
pub use Rattle.cspace_layout.specs.SlotFaults.{first_slot_fault}
pub use Rattle.cspace_layout.specs.Uses.{slots_of}
pub use Rattle.flat_laws.proofs.FewEnds.{no_first}
pub use Rattle.front_end.proofs.Refusing.{meaning_sound, refused_tells, second_is}
pub use Rattle.front_end.proofs.Sound.{IsFaultless, faultless, no_second}
pub use Rattle.front_end.proofs.Within.{sound_small, sound_within}
pub use Rattle.front_end.specs.First.{first_front_fault, name_of_file, source_tables}
pub use Rattle.front_end.specs.Fronts.{IsAssigned, IsMeaningOf, IsMeant}
pub use Rattle.front_end.specs.Refusals.{IsRefused, Refuses}
pub use Rattle.front_end.specs.Steps.{Assigns, HasMeaning, IsWhole, Tells}
pub use Rattle.cam_base.specs.Unread.{SourceError, yields}
pub use Rattle.source_images.proofs.ImageNumbers.{each_named, images_numbered, in_filter}
pub use Rattle.source_images.proofs.Soundness.{images_sound}
pub use Rattle.source_images.proofs.TableReads.{found_count}
pub use Rattle.source_images.specs.Found.{AlikeInTables, Found, folder_of, found_bytes, found_of, table, table_limit, table_name, table_names, too_long}
pub use Rattle.source_images.specs.ImagesRead.{AreImagesOf, AreImagesRead}
pub use Rattle.source_images.specs.Numbered.{AreNumbered, AreSound}
pub use Rattle.source_images.specs.SpaceFaults.{first_space_fault}
pub use Rattle.source_images.specs.TableFaults.{first_table_fault}
pub use Rattle.source_images.specs.Types.{Name, component_name, component_of, type_number, type_of, types}
pub use Rattle.source_images.specs.declared.images.Images.{Images}
pub use Rattle.std.proofs.Common.{Bool, Err, IsErr, List, None, Ok, Option, Result, Some, [], ap, arith, cond, drop, false, inl, inr, is_some, length, map, refl, rules, subst, suc, sym, take, tests, true, zero, ℕ, ◌++◌, ◌+◌, ◌-◌, ◌<◌, ◌==◌, ◌^◌, ◌∙◌}
pub use Rattle.std.proofs.Common.{◌∷◌, ◌≡◌, ◌≢◌, ◌≤◌, ◌⊎◌}
pub use Rattle.std.proofs.lemmas.List.{length-map}
pub use Rattle.std.specs.List.{cons_option, filter_map, position, slice_get, zip}
pub use Rattle.std.specs.Option.{option_and_then, option_map_or, option_or}
pub use Rattle.std.specs.Prelude.{IfOk, if◌then◌else◌, nat_lt, ◌↔◌}
pub use Rattle.system_spec.specs.Buildable.{IsBuildable, IsWindowed}
pub use Rattle.system_spec.specs.Made.{entry, labels_of, part_label, spec_of}
pub use Rattle.system_spec.specs.Parts.{parts}
pub use Rattle.system_spec.specs.Tables.{Tables, name_of_item}
pub use Rattle.system_spec.specs.TablesFrom.{tables_from}
pub use Rattle.vspace_layout.specs.Given.{given}
pub use Rattle.vspace_layout.specs.Laid.{spaces_of}
pub use Rattle.vspace_layout.specs.PageLimits.{first_page_limit}
