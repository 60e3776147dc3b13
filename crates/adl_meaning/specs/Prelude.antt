-- The names that most clauses and specifications of the language cite, passed on from one place. Declares nothing.
pub use Rattle.adl_ast.specs.declared.component.Component.{Component}
pub use Rattle.adl_ast.specs.declared.component.Interface.{Interface}
pub use Rattle.adl_ast.specs.declared.component.Member.{Member}
pub use Rattle.adl_ast.specs.declared.composition.Assembly.{Assembly}
pub use Rattle.adl_ast.specs.declared.composition.Composition.{Composition}
pub use Rattle.adl_ast.specs.declared.composition.Connection.{Connection}
pub use Rattle.adl_ast.specs.declared.composition.End.{End}
pub use Rattle.adl_ast.specs.declared.composition.Export.{Export}
pub use Rattle.adl_ast.specs.declared.composition.Group.{Group}
pub use Rattle.adl_ast.specs.declared.composition.Instance.{Instance}
pub use Rattle.adl_ast.specs.declared.composition.Line.{Line}
pub use Rattle.adl_ast.specs.declared.composition.Role.{Role}
pub use Rattle.adl_ast.specs.declared.composition.Role.TheVariants.{From, To}
pub use Rattle.adl_ast.specs.declared.configuration.Setting.{Setting}
pub use Rattle.adl_ast.specs.declared.file.Ended.{Ended}
pub use Rattle.adl_ast.specs.declared.file.File.{File}
pub use Rattle.adl_ast.specs.declared.file.Item.{Item}
pub use Rattle.adl_ast.specs.declared.id.Id.{Id}
pub use Rattle.adl_ast.specs.declared.seen.Seen.{Seen}
pub use Rattle.adl_ast.specs.declared.source.Source.{Source}
pub use Rattle.adl_ast.specs.declared.source.SourceFile.{SourceFile}
pub use Rattle.adl_ast.specs.declared.value.Value.{Value}
pub use Rattle.adl_ast.specs.declared.value.ValueKind.{ValueKind}
pub use Rattle.adl_meaning.specs.CompositeBody.{composite_bodies, is_composition, is_device, misplaced_in_item, misplaced_member}
pub use Rattle.adl_meaning.specs.Connectors.{connector_of}
pub use Rattle.adl_meaning.specs.Domains.{domain_of, domains, group_above, group_or, is_hardware}
pub use Rattle.adl_meaning.specs.Duplicate.{again, duplicates, duplicates_in_component, duplicates_in_composition, duplicates_in_item, duplicates_in_procedure, repeats, repeats_after}
pub use Rattle.adl_meaning.specs.Export.{Port, default_size, differs, export_fault, interface_at, is_port, is_unled, last_name, misfit_exports, misfits_after, misfits_in_composition, misfits_in_item, port_of, same_kind}
pub use Rattle.adl_meaning.specs.Faults.{Refuses, at_keyword, at_word, least, noted, where_false, where_true}
pub use Rattle.adl_meaning.specs.FewMembers.{HaveFewMembers}
pub use Rattle.adl_meaning.specs.Flat.{domain_number, flat_connection, flat_domain, flat_end, flat_ends, flat_of, flattened, is_inside, is_interface, item_of, leaf_number, leaf_of, member_number}
pub use Rattle.adl_meaning.specs.Graph.{IsInnerFirst, Walk, has, inner_of}
pub use Rattle.adl_meaning.specs.Hierarchy.{Body, Hierarchy, Part, Wire, body, body_of, export_named, exports_of, graph, hierarchy_of, is_composite, kind_named, part_named, part_of, parts_by, parts_in, port_in, top_number, top_of, wire_of, wires_of}
pub use Rattle.adl_meaning.specs.Holding.{Held, a_connection, a_group, an_instance, as_connection, as_export, as_held, connections_in, exports_in, held_as, held_by, held_in, instances_by, instances_in, member_of}
pub use Rattle.adl_meaning.specs.Items.{AreFew, Name, Rises, as_assembly, as_component, as_procedure, assemblies, component_named, component_of, components, items_in, items_of, procedure_named, procedures}
pub use Rattle.adl_meaning.specs.JoinFaults.{first_flat_fault, first_join_fault, join_faults_in}
pub use Rattle.adl_meaning.specs.JoinedEnds.{JoinedEnd, is_at, is_once, joins_once}
pub use Rattle.adl_meaning.specs.Joins.{Climbs, Joins, Reached, Strung, behind, connections, further, joined_by, reached, reached_by, reached_within, strung, strung_by}
pub use Rattle.adl_meaning.specs.Known.{Known, is_exported, known_in, known_of}
pub use Rattle.adl_meaning.specs.Lists.{firsts_after, place_by}
pub use Rattle.adl_meaning.specs.Members.{as_composition, attribute_of, composition_of, compositions, configurations, declared_as, declared_by, declared_in, interface_of}
pub use Rattle.adl_meaning.specs.NameFaults.{AreNamesSound, first_name_fault}
pub use Rattle.adl_meaning.specs.NoAssembly.{none_of}
pub use Rattle.adl_meaning.specs.Paths.{IsLeaf, Path, Placed, at, leaves, leaves_in, leaves_within, name_of, outside, placed_by, same_path}
pub use Rattle.adl_meaning.specs.Placement.{is_direct, same_domain}
pub use Rattle.adl_meaning.specs.Recursive.{graph_of, instances_of, number_named, recursive_in, recursive_types, types_of}
pub use Rattle.adl_meaning.specs.SecondAssembly.{second_of}
pub use Rattle.adl_meaning.specs.SizeFaults.{depth, first_size_fault, limit_passed, limits_passed, longest}
pub use Rattle.adl_meaning.specs.Unconnected.{unjoined_at}
pub use Rattle.adl_meaning.specs.Unknown.{is_procedure, scope_behind, scope_of_known, unknown_attribute, unknown_in_composition, unknown_in_configuration, unknown_in_dotted, unknown_in_item, unknown_in_line, unknown_in_member, unknown_in_setting}
pub use Rattle.adl_meaning.specs.Unknown.{unknown_inner, unknown_interface, unknown_names, unless_known}
pub use Rattle.adl_meaning.specs.UsedTwice.{used_twice}
pub use Rattle.adl_meaning.specs.Values.{Given, default_at, default_in, given, inner_names, is_group, path_of, set_within, sets, setter_at, setting_of, settings_of, value_at}
pub use Rattle.cam_base.specs.Numbers.{is_digit}
pub use Rattle.cam_base.specs.Paths.{joined}
pub use Rattle.cam_base.specs.declared.code.Code.{Code}
pub use Rattle.cam_base.specs.declared.error.Refused.{Refused}
pub use Rattle.cam_base.specs.declared.place.Fault.{Fault}
pub use Rattle.cam_base.specs.declared.place.Place.{Place}
pub use Rattle.cam_base.specs.Gather.{IsIn}
pub use Rattle.std.specs.Borrow.{Bor}
pub use Rattle.std.specs.List.{All, cons_option, count_by, enumerate_from, filter, filter_map, find, flat_map, list_all, list_any, slice_get}
pub use Rattle.std.specs.Map.{lookup}
pub use Rattle.std.specs.Option.{is_none, option_and_then, option_copied, option_eq, option_map_or, option_or}
pub use Rattle.std.specs.Str.{bytes_eq}
pub use Rattle.std.specs.Str.Parse.{digits_value}
pub use Rattle.std.specs.declared.hash.BuildHasherDefault.{BuildHasherDefault}
pub use Rattle.std.specs.declared.hash.FoldHasher.{FoldHasher}
