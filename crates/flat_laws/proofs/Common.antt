-- The names that most proofs cite, passed on from one place. Declares nothing.
pub use Rattle.adl_hierarchy.proofs.Bodies.{body_number, part_of_body}
pub use Rattle.adl_hierarchy.proofs.DomainNames.{domain_found, domain_number_is, domains_are, leaf_number_is, leaves_of_domain}
pub use Rattle.adl_hierarchy.proofs.Joining.{all_joined, end_numbers_kept, joined, kept}
pub use Rattle.adl_hierarchy.proofs.Leading.{interface_known, is_there, own_connection, own_export}
pub use Rattle.adl_hierarchy.proofs.Limits.{AreInLimits, in_limits}
pub use Rattle.adl_hierarchy.proofs.Lists.{in_get}
pub use Rattle.adl_hierarchy.specs.Leads.{AreDotted}
pub use Rattle.adl_meaning.specs.Prelude.{All, AreNamesSound, Body, Component, Composition, End, Ended, Export, Fault, File, From, HaveFewMembers, Hierarchy, Id, Instance, Interface, Item, Known, Member, Name, Part, Path, Placed, Reached, Role, Seen}
pub use Rattle.adl_meaning.specs.Prelude.{Source, SourceFile, Strung, To, Wire, as_component, behind, body, bytes_eq, components, connections, cons_option, count_by, declared_by, domain_number, domain_of, domains, enumerate_from, export_named}
pub use Rattle.adl_meaning.specs.Prelude.{exports_of, filter, filter_map, find, first_flat_fault, first_join_fault, first_size_fault, firsts_after, flat_connection, flat_domain, flat_end, flat_ends, flat_map, flat_of, hierarchy_of, instances_in}
pub use Rattle.adl_meaning.specs.Prelude.{interface_of, is_composite, is_hardware, is_inside, is_interface, item_of, items_in, items_of, joined_by, kind_named, known_in, leaf_number, leaf_of, leaves, name_of, option_and_then, option_map_or}
pub use Rattle.adl_meaning.specs.Prelude.{option_or, part_named, place_by, port_in, reached, reached_by, reached_within, same_kind, same_path, slice_get, top_number, unknown_interface, where_false, wires_of}
pub use Rattle.adl_meaning.specs.declared.connector.Connector.{Connector}
pub use Rattle.adl_meaning.specs.declared.flat.Domain.{Domain}
pub use Rattle.adl_meaning.specs.declared.flat.FlatConnection.{FlatConnection}
pub use Rattle.adl_meaning.specs.declared.flat.FlatEnd.{FlatEnd}
pub use Rattle.adl_meaning.specs.declared.flat.Leaf.{Leaf}
pub use Rattle.adl_meaning.specs.declared.item_at.ItemAt.{ItemAt}
pub use Rattle.adl_settings.specs.Joints.{Joint, found_at, found_of, found_on, founds_in, interface_at, joint_at, positioned, positioned_after}
pub use Rattle.adl_settings.specs.Settled.{end_settings, leaves_found, settled_of}
pub use Rattle.adl_types.proofs.Typed.{well_typed}
pub use Rattle.adl_types.specs.TypeFaults.{count_of, first_type_fault, is_kind_of, may_have}
pub use Rattle.cam_base.proofs.NumberedLists.{all_in, at_place, found, from_enumerate, from_filter_map, from_flat_map, from_get_map, from_map, get_map, map_some, none_left, none_right}
pub use Rattle.cam_base.specs.Gather.{IsIn}
pub use Rattle.conn_rules.specs.Ends.{allows, at_most, end_rule}
pub use Rattle.cspace_layout.specs.Members.{items_of_file, leaf_members, members_at, members_in, members_of, members_of_leaf}
pub use Rattle.flat_laws.specs.Typed.{AreTyped, IsTypedEnd}
pub use Rattle.std.proofs.Common.{Bool, List, None, Option, Some, [], ap, arith, cond, false, inl, inr, is_some, length, map, not, option_map, refl, subst, suc, sym, true, unwrap_or, zero, ℕ, ◌&&◌, ◌++◌, ◌+◌, ◌||◌, ◌∙◌, ◌∷◌, ◌≡◌, ◌≤◌}
pub use Rattle.std.proofs.lemmas.Bool.{and_parts, cond_both, leb-true, or_cases}
pub use Rattle.std.proofs.lemmas.List.{length-append, length-map}
pub use Rattle.std.proofs.lemmas.List.Sums.{count_by-le-length, length-filter, sum_by-cons}
pub use Rattle.std.proofs.lemmas.Option.{option_and_then_some, slice_get_within}
