-- The names that most proofs cite, passed on from one place. Declares nothing.
pub use Rattle.adl_ast.specs.declared.component.Interface.{Interface}
pub use Rattle.adl_ast.specs.declared.component.Member.{Member}
pub use Rattle.adl_ast.specs.declared.configuration.Configuration.{Configuration}
pub use Rattle.adl_ast.specs.declared.file.Import.{Import}
pub use Rattle.adl_ast.specs.declared.source.SourceFile.{SourceFile}
pub use Rattle.adl_hierarchy.proofs.Connections.{connections_once, connections_stand}
pub use Rattle.adl_hierarchy.proofs.DomainNames.{domain_found, domains_are, domains_once, leaf_number_is, leaves_of_domain, same_path-Decides}
pub use Rattle.adl_hierarchy.proofs.Joining.{all_joined, end_numbers_kept, ends_kept, joined, joins_joined}
pub use Rattle.adl_hierarchy.proofs.Leading.{is_there}
pub use Rattle.adl_hierarchy.proofs.PartNames.{names_once, wires_once}
pub use Rattle.adl_hierarchy.proofs.Places.{from_filter, in_filter, once_filter}
pub use Rattle.adl_hierarchy.specs.Once.{IsOnce}
pub use Rattle.adl_hierarchy.specs.PartAt.{part_at}
pub use Rattle.adl_import.specs.Imports.{imports_of, is_built_in, name_given}
pub use Rattle.adl_import.specs.Sources.{IsSource, Meeting, files_limit, firsts, is_known, meeting_at, meeting_of, meetings_of, met, root_place}
pub use Rattle.adl_meaning.specs.Prelude.{AreNamesSound, Assembly, Body, Component, Composition, Connection, End, Export, Fault, Held, Hierarchy, Id, Instance, IsIn, Item, Known, Name, Part, Path, Place, Placed, Port, Reached, Role, Setting, Source}
pub use Rattle.adl_meaning.specs.Prelude.{Strung, Wire, a_connection, a_group, again, an_instance, as_composition, as_connection, as_export, at_keyword, at_word, body, components, compositions, configurations, connections, connections_in}
pub use Rattle.adl_meaning.specs.Prelude.{connector_of, declared_in, differs, domain_number, domain_of, domains, duplicates, duplicates_in_component, duplicates_in_composition, duplicates_in_item, duplicates_in_procedure, enumerate_from}
pub use Rattle.adl_meaning.specs.Prelude.{export_fault, exports_in, flat_connection, flat_domain, flat_end, flat_ends, flat_map, flat_of, further, group_above, held_as, held_in, hierarchy_of, instances_by, instances_in, interface_at, interface_of}
pub use Rattle.adl_meaning.specs.Prelude.{is_composite, is_hardware, is_inside, is_interface, is_port, is_procedure, is_unled, items_of, joined_by, known_in, known_of, last_name, leaf_number, leaves, leaves_within, member_number, misfit_exports}
pub use Rattle.adl_meaning.specs.Prelude.{misfits_after, misfits_in_composition, misfits_in_item, name_of, option_and_then, option_map_or, outside, part_named, path_of, place_by, placed_by, port_in, port_of, procedure_named, procedures, reached}
pub use Rattle.adl_meaning.specs.Prelude.{recursive_types, repeats, repeats_after, same_path, settings_of, strung, strung_by, top_number, unknown_attribute, unknown_in_composition, unknown_in_configuration, unknown_in_dotted, unknown_in_item}
pub use Rattle.adl_meaning.specs.Prelude.{unknown_in_line, unknown_in_member, unknown_interface, unknown_names, where_false, where_true, wires_of}
pub use Rattle.adl_meaning.specs.Unknown.{Scope, behind, inside, names_procedure, scope_behind, scope_in_composition, scope_in_group, scope_of_held, scope_of_known, unknown, unknown_connector, unknown_group, unknown_if_configured, unknown_in_group}
pub use Rattle.adl_meaning.specs.Unknown.{unknown_in_one_setting, unknown_in_setting, unknown_in_three, unknown_in_two, unknown_inner, unknown_last, unknown_target, unknown_type, unknown_word, untold, within}
pub use Rattle.adl_meaning.specs.declared.flat.Domain.{Domain}
pub use Rattle.adl_meaning.specs.declared.flat.FlatConnection.{FlatConnection}
pub use Rattle.adl_meaning.specs.declared.flat.FlatEnd.{FlatEnd}
pub use Rattle.adl_meaning.specs.declared.flat.Leaf.{Leaf}
pub use Rattle.adl_meaning.specs.declared.item_at.ItemAt.{ItemAt}
pub use Rattle.adl_types.specs.TypeFaults.{agree, at_end, body_faults, end_faults, faults_below, first_leaf, first_type_fault, has_one_type, is_kind_of, is_size, may_have, same_type, size_faults, type_faults, wire_faults}
pub use Rattle.boot_plan.specs.Regions.{region_end, shares}
pub use Rattle.boot_plan.specs.declared.need.Need.{Need}
pub use Rattle.boot_plan.specs.declared.need.Need.TheVariants.{Block, DevicePage, Nothing}
pub use Rattle.boot_plan.specs.declared.untyped.Untyped.{Untyped}
pub use Rattle.cam_base.proofs.Gathered.{get_behind, get_front, in_append, in_left, in_place, in_right, place_of, split_get}
pub use Rattle.cam_base.proofs.NumberedLists.{at_place, below, from_any, from_enumerate, from_filter_map, from_flat_map, from_get_map, from_map, get_map, in_enumerate, in_filter_map, in_flat_map, in_map, map_some, split_in}
pub use Rattle.cam_base.proofs.Options.{is_none}
pub use Rattle.cam_base.specs.Fields.{fields}
pub use Rattle.cam_base.specs.Lines.{Line, lines}
pub use Rattle.front_laws.specs.ByHierarchy.{AreConnections, AreDomains, AreLeaves, IsByHierarchy, IsConnectionBefore, IsDomainBefore, IsDomainOf, IsEndOf, IsInside, IsLeafOf, IsPathBefore, IsWireBefore, IsWireOf, at_names, by_instances, deeper}
pub use Rattle.front_laws.specs.ByHierarchy.{in_one, outer_first, within_one}
pub use Rattle.front_laws.specs.InOrder.{InOrder, IsBefore}
pub use Rattle.front_laws.specs.PlannedMemory.{AreApart, AreBlocksPlaced, AreDevicesPlaced, AreServed, HasDevice, IsDeviceRefusal, IsFirstOverlap, IsTaken, NeedsPage, Overlap, ShareAddress, no_device, shared_frame}
pub use Rattle.front_laws.specs.Standing.{HasComposition, HasItem, IsLater, of_assembly, of_component}
pub use Rattle.front_laws.specs.TypesByHierarchy.{HasWire, IsTypeFault, Means, another_count, another_kind, another_type, no_size}
pub use Rattle.front_laws.specs.UnknownWords.{Ends, Holding, IsInFront, IsUnknownIn, IsUnknownWord, Leads, NamesInstance, Types, a_group_alone, alone, at_connection, at_leaf, behind_an_end, here, in_a_group, inwards, unheld, unheld_in_group}
pub use Rattle.std.proofs.Common.{Bool, Err, List, None, Ok, Option, Result, Some, [], ap, append-nil, append_assoc, arith, codes, cond, drop, false, filter, get_or, inl, inr, is_some, leb, length, length-append, map, nat_eq, nat_lt, not, option_map, rules}
pub use Rattle.std.proofs.Common.{refl, subst, suc, sym, true, true≢false, unwrap_or, zero, ℕ, ◌&&◌, ◌*◌, ◌++◌, ◌+◌, ◌<◌, ◌==◌, ◌^◌, ◌||◌, ◌↔◌, ◌∙◌, ◌∷◌, ◌≡◌, ◌≢◌, ◌≤◌, ◌⊎◌}
pub use Rattle.std.proofs.lemmas.Bool.{and_from, and_parts, cases_Bool, cases_eq, cases_lt, eq-eqb, eqb-false, eqb-true, le-leb, le-ltb, leb-true, lt-ltb, ltb-false, ltb-true, ne_eqb, not-false, not-true, not_from_false, or_cases, or_left, or_parts}
pub use Rattle.std.proofs.lemmas.Bool.{or_right}
pub use Rattle.std.proofs.lemmas.Bool.Decides.{nat_tests}
pub use Rattle.std.proofs.lemmas.Option.{get_or_from_slice_get, option_and_then_some, slice_get-get_or}
pub use Rattle.std.proofs.lemmas.Slice.Eq.{bytes_eq-Decides}
pub use Rattle.std.specs.List.{AllByRecursion, filter_map, list_any, position, position_or_len, slice_get, slice_index, starts_with}
pub use Rattle.std.specs.Option.{ok_or, option_or}
pub use Rattle.std.specs.Str.{bytes_eq}
