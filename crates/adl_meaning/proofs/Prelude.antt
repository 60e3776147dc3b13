-- The names that most proofs about the language cite, passed on from one place. Declares nothing.
pub use Rattle.adl_ast.specs.declared.procedure.Procedure.{Procedure}
pub use Rattle.adl_meaning.proofs.FewComponents.{few_components}
pub use Rattle.adl_meaning.proofs.Least.{least-empty, noted-append, noted-none}
pub use Rattle.adl_meaning.proofs.Noting.{noted_each, noted_numbered, noted_then, noting}
pub use Rattle.adl_meaning.proofs.SamePaths.{same_path-true}
pub use Rattle.adl_meaning.proofs.SoundNames.{names_sound, one_assembly}
pub use Rattle.adl_meaning.specs.Duplicate.{as_method, repeated_params}
pub use Rattle.adl_meaning.specs.Export.{is_misfit, unled_end, unled_ends}
pub use Rattle.adl_meaning.specs.Graph.{InRange}
pub use Rattle.adl_meaning.specs.Items.{stands_before}
pub use Rattle.adl_meaning.specs.JoinedEnds.{joined_end, joined_ends, joined_ends_of}
pub use Rattle.adl_meaning.specs.Known.{is_target}
pub use Rattle.adl_meaning.specs.Lists.{firsts}
pub use Rattle.adl_meaning.specs.Members.{as_configuration}
pub use Rattle.adl_meaning.specs.Placement.{domain_at, in_one_domain, misplaced_device, parted_call}
pub use Rattle.adl_meaning.specs.Prelude.{All, AreFew, AreNamesSound, Assembly, Body, Component, Composition, End, Ended, Export, Fault, From, Given, HaveFewMembers, Hierarchy, Id, Interface, IsIn, IsInnerFirst, JoinedEnd, Name, Part, Path, Placed}
pub use Rattle.adl_meaning.specs.Prelude.{Reached, Refuses, Role, Setting, Source, SourceFile, Strung, To, Value, Wire, as_assembly, as_component, as_connection, as_export, assemblies, at, at_word, behind, body, body_of, bytes_eq, component_named}
pub use Rattle.adl_meaning.specs.Prelude.{components, connections, connections_in, cons_option, count_by, declared_by, default_at, depth, digits_value, domain_number, domain_of, domains, enumerate_from, export_named, exports_of, filter, filter_map}
pub use Rattle.adl_meaning.specs.Prelude.{find, first_flat_fault, first_join_fault, first_size_fault, firsts_after, flat_domain, flat_end, flat_ends, flat_map, flat_of, flattened, further, given, graph, group_above, group_or, has, hierarchy_of}
pub use Rattle.adl_meaning.specs.Prelude.{inner_names, inner_of, instances_by, instances_in, is_at, is_composite, is_device, is_direct, is_group, is_hardware, is_inside, is_interface, is_none, is_once, item_of, items_in, join_faults_in, joined_by}
pub use Rattle.adl_meaning.specs.Prelude.{kind_named, last_name, leaf_of, least, leaves, leaves_in, limit_passed, limits_passed, list_all, list_any, longest, lookup, member_number, name_of, noted, number_named, option_and_then, option_copied}
pub use Rattle.adl_meaning.specs.Prelude.{option_eq, option_map_or, option_or, outside, part_named, part_of, parts_by, path_of, place_by, placed_by, port_in, procedure_named, reached, reached_by, same_domain, same_path, set_within, sets, setter_at}
pub use Rattle.adl_meaning.specs.Prelude.{setting_of, settings_of, slice_get, strung, strung_by, top_number, top_of, unjoined_at, unknown_in_configuration, used_twice, value_at, where_true, wire_of, wires_of}
pub use Rattle.adl_meaning.specs.Recursive.{recursive_among, recursive_instance}
pub use Rattle.adl_meaning.specs.SizeFaults.{all_ends}
pub use Rattle.adl_meaning.specs.Unconnected.{unconnected_in, unjoined_member}
pub use Rattle.adl_meaning.specs.Unknown.{unknown_if_configured, unknown_in_one_setting, unknown_type, within}
pub use Rattle.adl_meaning.specs.UsedTwice.{used_twice_in}
pub use Rattle.cam_base.proofs.Bytes.{bytes_eq-sym}
pub use Rattle.cam_base.proofs.Lists.{drop_first, find_passes, list_any-map}
pub use Rattle.cam_base.proofs.Options.{is_some-option_or, option_or-cond, option_or-none, option_or-there}
pub use Rattle.cam_base.proofs.Gathered.{gather_turn, gathered, get_behind, get_front, in_place}
pub use Rattle.cam_base.proofs.NumberedLists.{all_in, at_place, below, flat_map_same, from_any, from_enumerate, from_filter_map, from_get_map, get_map, map_some, none_in, none_left, none_right, read_in, read_place}
pub use Rattle.cam_base.specs.Gather.{gather}
pub use Rattle.std.proofs.Common.{Bool, Decides, Global, IfOk, List, None, Option, Some, Vec, [], ap, append_assoc, arith, codes, cond, drop, false, fold, get_or, get_or-set_other, get_or-set_same, inl, inr, is_some, length, length-append, map, max}
pub use Rattle.std.proofs.Common.{min, nat_eq, nat_le, nat_lt, not, option_map, refl, rules, slice_index, subst, suc, sym, take, true, unwrap_or, zero, ℕ, ◌&&◌, ◌*◌, ◌++◌, ◌+◌, ◌-◌, ◌<◌, ◌==◌, ◌^◌, ◌||◌, ◌∙◌, ◌∷◌, ◌≡◌, ◌≤◌, ◌⊎◌}
pub use Rattle.std.proofs.Math.Bool.{or-false}
pub use Rattle.std.proofs.Math.ListN.{drop_of_length-le, length-set, replicate}
pub use Rattle.std.proofs.Math.Seq.{take-length}
pub use Rattle.std.proofs.lemmas.Bool.{and_from, and_parts, cases_eq, cond_both, eq-eqb, eqb-true, false_from_ne_true, lt-ltb, ne_eqb, or_cases, or_left, or_right, true_from_ne_false, true≢false}
pub use Rattle.std.proofs.lemmas.Bool.Decides.{nat_tests}
pub use Rattle.std.proofs.lemmas.Grind.{common_steps}
pub use Rattle.std.proofs.lemmas.List.{append-nil, drop-append-le, drop-map, drop_all, get_or-map, get_or_append_left, get_or_default, get_or_past, get_or_push, get_or_read, length-drop, length-map, length-replicate, length-take, length-take-le}
pub use Rattle.std.proofs.lemmas.List.{map-append, map-id, nil_from_length, same_lists, take-take, take_all, take_at, take_more}
pub use Rattle.std.proofs.lemmas.List.Concat.{flat_map-append}
pub use Rattle.std.proofs.lemmas.List.Elements.{All-get_or, All-map, All-same, filter_map-append}
pub use Rattle.std.proofs.lemmas.List.Folds.{flat_map-map, length-flat_map-take, list_all-map, list_any-append, list_any_at, list_any_more}
pub use Rattle.std.proofs.lemmas.List.Sorted.{list_any-IsPermutation}
pub use Rattle.std.proofs.lemmas.List.Sums.{count_by_more_no, count_by_more_yes}
pub use Rattle.std.proofs.lemmas.Option.{get_or_from_slice_get, option_and_then_some, slice_get-map, slice_get_cases, slice_get_read}
pub use Rattle.std.proofs.lemmas.Simd.{map-map}
pub use Rattle.std.proofs.lemmas.Slice.Eq.{bytes_eq-Decides}
pub use Rattle.std.specs.Cmp.Derive.Mapped.{pointwise-map}
pub use Rattle.std.specs.Cmp.Lexicographic.{pointwise}
pub use Rattle.std.specs.Cmp.Rules.{comparing}
pub use Rattle.std.specs.List.{AllByRecursion, position_or_len}
pub use Rattle.std.specs.List.Sorted.{IsPermutation}
pub use Rattle.std.specs.Prelude.{position}
pub use Rattle.std.specs.Str.Parse.{digits_value_after}
