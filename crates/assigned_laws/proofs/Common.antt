-- The names that most proofs cite, passed on from one place. Declares nothing.
pub use Rattle.adl_hierarchy.proofs.Bodies.{body_number, part_of_body, parts_of}
pub use Rattle.adl_hierarchy.proofs.Connections.{connections_once, connections_stand}
pub use Rattle.adl_hierarchy.proofs.DomainNames.{domain_found, domain_number_is, domains_are, leaf_number_is, same_path-Decides}
pub use Rattle.adl_hierarchy.proofs.Leaves.{leaves_stand, paths_are_leaves}
pub use Rattle.adl_hierarchy.proofs.Lists.{in_get}
pub use Rattle.adl_hierarchy.proofs.PartsAt.{at_part, first_on, last_of, named_in}
pub use Rattle.adl_hierarchy.proofs.Spelled.{IsOne, line_spelled, one_of, spelled_dotted}
pub use Rattle.adl_hierarchy.specs.Leads.{AreDotted}
pub use Rattle.adl_hierarchy.specs.Spelled.{AreSpelled}
pub use Rattle.adl_meaning.specs.Prelude.{AreNamesSound, Body, Component, Composition, Connection, End, Ended, From, Given, Group, Held, Hierarchy, Id, Instance, Interface, IsLeaf, Item, Line, Name, Part, Path, Placed, Reached, Role, Source}
pub use Rattle.adl_meaning.specs.Prelude.{SourceFile, Strung, To, Wire, a_connection, a_group, an_instance, as_connection, as_held, at, body, bytes_eq, connections, count_by, domain_number, domain_of, domains, filter_map, find, flat_connection}
pub use Rattle.adl_meaning.specs.Prelude.{flat_domain, flat_end, flat_ends, flat_map, flat_of, group_above, held_by, held_in, hierarchy_of, instances_by, is_device, is_hardware, is_interface, item_of, joined, kind_named, leaf_number, leaf_of, leaves}
pub use Rattle.adl_meaning.specs.Prelude.{list_all, member_of, name_of, option_and_then, option_map_or, part_named, part_of, parts_by, parts_in, place_by, same_kind, same_path, slice_get, top_number, value_at}
pub use Rattle.adl_meaning.specs.declared.connector.Connector.{Connector}
pub use Rattle.adl_meaning.specs.declared.flat.Domain.{Domain}
pub use Rattle.adl_meaning.specs.declared.flat.Flat.{Flat}
pub use Rattle.adl_meaning.specs.declared.flat.FlatConnection.{FlatConnection}
pub use Rattle.adl_meaning.specs.declared.flat.FlatEnd.{FlatEnd}
pub use Rattle.adl_meaning.specs.declared.flat.Leaf.{Leaf}
pub use Rattle.adl_meaning.specs.declared.item_at.ItemAt.{ItemAt}
pub use Rattle.adl_settings.specs.Settled.{settled_of}
pub use Rattle.adl_types.specs.TypeFaults.{first_type_fault}
pub use Rattle.arch_policy.proofs.Given.{implied, implies, labelled_endpoint, labelled_frames, labelled_notification, over_object}
pub use Rattle.arch_policy.proofs.Lists.{from_where, has_in, in_has, in_where}
pub use Rattle.arch_policy.specs.Ends.{EndAt, IsEnd, LockAt}
pub use Rattle.arch_policy.specs.Gives.{gives, opposite}
pub use Rattle.arch_policy.specs.Labels.{comes_before, connection_numbers, device_numbers, domain_numbers, label_lines, label_numbers, label_texts, rank}
pub use Rattle.arch_policy.specs.Owners.{connection_texts, device_texts, domain_texts, has_label, owner_in, texts}
pub use Rattle.arch_policy.specs.Policies.{IsLockEdge, IsPolicyOf}
pub use Rattle.arch_policy.specs.Reasons.{BindReason, CallReason, DirectReason, IsReasoned, LeadsTo, LockReason, Reason, by_bind, by_call, by_direct, by_lock}
pub use Rattle.arch_policy.specs.Tables.{AreApart, IsThere, Tables, connection_label, domain_label, leaf_label, number_of, tables_of}
pub use Rattle.arch_policy.specs.declared.numbers.LabelNumbers.{LabelNumbers}
pub use Rattle.arch_policy.specs.declared.owner.Owner.{Owner}
pub use Rattle.arch_policy.specs.declared.owner.Owner.TheVariants.{OfConnection, OfDomain, OfLeaf}
pub use Rattle.assigned_laws.specs.Assigned.{AtOtherEnd, Bound, Called, Cause, Direct, EndOf, Handles, HasLabel, IsAssigned, LockOf, Locked, WithLock, access_of, allows, bound, called, connection_path, device_at, direct, locked, owner}
pub use Rattle.assigned_laws.specs.Named.{ArePathsApart, HasPath, IsNamed, tables_with}
pub use Rattle.assigned_laws.specs.Texts.{AreTextsApart, AreUndotted, IsAssignedText, IsCalled, IsDirectText, IsLabelText, IsLockText, IsUndotted, OfTexts}
pub use Rattle.authorities.specs.declared.authority.Authority.{Authority}
pub use Rattle.cam_base.proofs.Gathered.{from_gather, from_ones, get_ones, in_append, in_gather, in_left, in_place, in_right, place_of}
pub use Rattle.cam_base.proofs.Lists.{list_all-places, snoc_same}
pub use Rattle.cam_base.proofs.NumberedLists.{at_place, from_filter_map, from_flat_map, from_get_map, from_map, get_map, in_flat_map, in_map, map_some}
pub use Rattle.cam_base.specs.Gather.{IsIn}
pub use Rattle.cam_base.specs.Names.{is_letter, is_name, is_word_byte}
pub use Rattle.cap_model.specs.Edges.{Before, edge}
pub use Rattle.cap_model.specs.declared.edge.Edge.{Edge}
pub use Rattle.conn_rules.specs.declared.rule.ObjectKind.{ObjectKind}
pub use Rattle.conn_rules.specs.declared.rule.ObjectKind.TheVariants.{NoObject, OfDevice, OfEndpoint, OfFrames, OfIrq, OfNotification}
pub use Rattle.cspace_layout.specs.Members.{items_of_file, members_at, members_in, members_of}
pub use Rattle.flat_laws.proofs.FlatLeaves.{leaf_component, members_of_part}
pub use Rattle.std.proofs.Common.{Bool, Less, List, None, Option, Some, [], ap, arith, codes, cond, false, get_or, inl, inr, length, map, not, refl, subst, suc, sym, true, true≢false, unwrap_or, zero, ℕ, ◌&&◌, ◌++◌, ◌+◌, ◌<◌, ◌==◌, ◌↔◌, ◌∙◌, ◌∷◌}
pub use Rattle.std.proofs.Common.{◌≡◌, ◌≢◌, ◌≤◌}
pub use Rattle.std.proofs.lemmas.Bool.{and_from, and_parts, eq-eqb, eqb-true, ltb-false, ltb-true, not-true, or_left}
pub use Rattle.std.proofs.lemmas.Option.{get_or_from_slice_get, option_and_then_some, same_Some, slice_get-get_or, slice_get_within}
pub use Rattle.std.specs.List.{AllPairs}
pub use Rattle.std.specs.Prelude.{is_some, leb}
