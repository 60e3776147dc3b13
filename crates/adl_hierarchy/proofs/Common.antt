-- The names that most proofs cite, passed on from one place. Declares nothing.
pub use Rattle.adl_hierarchy.specs.Cycles.{AreCycleNumbers, AreHeldBy, AreRoots, IsTurned, MayTell, TellCycles}
pub use Rattle.adl_hierarchy.specs.Finite.{IsFinite}
pub use Rattle.adl_hierarchy.specs.Leads.{AllLead, AreDotted, IsDotted, Leads, PortLeads}
pub use Rattle.adl_hierarchy.specs.Once.{IsOnce}
pub use Rattle.adl_hierarchy.specs.PartAt.{part_at}
pub use Rattle.adl_hierarchy.specs.Placing.{HasMore, IsAtEnd, IsLaid, IsPlacing, Settles, Waits}
pub use Rattle.adl_hierarchy.specs.Sets.{AreMarks, Numbers, with_number}
pub use Rattle.adl_hierarchy.specs.declared.placing.Placing.{Placing}
pub use Rattle.adl_meaning.proofs.SoundNames.{one_assembly}
pub use Rattle.adl_meaning.specs.Duplicate.{duplicates_in_composition, duplicates_in_item, repeats, repeats_after}
pub use Rattle.adl_meaning.specs.Export.{ends_in, export_fault, instance_held, is_misfit, is_port, member_held, misfits_after, misfits_in_item, unled_end, unled_ends}
pub use Rattle.adl_meaning.specs.Graph.{Holds, InRange, IsAcyclic, IsInnerFirst, Walk, has, inner_of, is_held, through}
pub use Rattle.adl_meaning.specs.Items.{component_named}
pub use Rattle.adl_meaning.specs.Joins.{connections_within}
pub use Rattle.adl_meaning.specs.Prelude.{AreNamesSound, Assembly, Body, Climbs, Component, Composition, Connection, End, Ended, Export, Fault, File, Held, Hierarchy, Id, Instance, IsLeaf, Item, Joins, Known, Line, Member, Name, Part, Path, Placed}
pub use Rattle.adl_meaning.specs.Prelude.{Port, Reached, Role, Seen, Source, Strung, Wire, a_connection, a_group, an_instance, as_assembly, as_component, as_composition, as_connection, as_export, as_held, assemblies, at, behind, body, body_of}
pub use Rattle.adl_meaning.specs.Prelude.{bytes_eq, components, composition_of, compositions, connections, connections_in, connector_of, cons_option, depth, domain_number, domain_of, domains, enumerate_from, export_named, exports_in, exports_of}
pub use Rattle.adl_meaning.specs.Prelude.{filter, filter_map, find, first_size_fault, firsts_after, flat_domain, flat_end, flat_ends, flat_map, further, graph, group_above, group_or, held_as, held_by, held_in, hierarchy_of, instances_by}
pub use Rattle.adl_meaning.specs.Prelude.{instances_in, is_composite, is_hardware, is_inside, is_unled, items_in, items_of, joined_by, kind_named, known_in, known_of, leaf_number, leaves, leaves_in, leaves_within, limits_passed, list_any, member_of}
pub use Rattle.adl_meaning.specs.Prelude.{misfits_in_composition, name_of, option_and_then, option_map_or, outside, part_named, part_of, parts_by, parts_in, place_by, placed_by, port_in, port_of, reached, reached_by, reached_within, same_path}
pub use Rattle.adl_meaning.specs.Prelude.{slice_get, strung, strung_by, top_number, top_of, unknown_in_composition, unknown_interface, unless_known, where_true, wire_of, wires_of}
pub use Rattle.adl_meaning.specs.Recursive.{graph_of, instances_of, number_from, number_named, recursive_among, recursive_in, recursive_instance, recursive_type, types_of}
pub use Rattle.adl_meaning.specs.declared.connector.Connector.{Connector}
pub use Rattle.adl_meaning.specs.declared.item_at.ItemAt.{ItemAt}
pub use Rattle.cam_base.proofs.Gathered.{in_append, in_left, in_right}
pub use Rattle.cam_base.proofs.NumberedLists.{at_place, empty, flat_map_same, found, from_enumerate, from_filter_map, from_flat_map, from_map, get_map, get_or_last, get_or_map, in_enumerate, in_filter_map, in_flat_map, in_map, map_some, none_from}
pub use Rattle.cam_base.proofs.NumberedLists.{none_in, none_left, none_right}
pub use Rattle.cam_base.specs.Gather.{IsIn}
pub use Rattle.std.proofs.Common.{Bool, Decides, Global, List, None, Option, Some, Vec, [], add-one, ap, append-nil, arith, cond, drop, false, get_or, get_or-set_other, get_or-set_same, inl, inr, is_some, length, length-append, map, map-id, nat_eq}
pub use Rattle.std.proofs.Common.{not, option_map, refl, rules, subst, suc, sym, take, true, true≢false, zero, ℕ, ◌&&◌, ◌++◌, ◌+◌, ◌-◌, ◌<◌, ◌^◌, ◌||◌, ◌↔◌, ◌∙◌, ◌∷◌, ◌≡◌, ◌≤◌, ◌⊎◌}
pub use Rattle.std.proofs.Math.ListN.{length-set, replicate, set}
pub use Rattle.std.proofs.Math.Seq.{get_or-append_seam, take-length}
pub use Rattle.std.proofs.lemmas.Bool.{and_from, and_parts, both_ways, cases_Bool, cases_eq, cases_lt, eq-eqb, eqb-true, false_from_ne_true, false≢true, ltb-false, ne_eqb, not-true, or_cases, or_from, or_left, or_parts, or_right}
pub use Rattle.std.proofs.lemmas.List.{get_or-replicate, get_or-take, get_or_append_left, get_or_default, length-map, length-replicate, map-append, take-append-drop, take-append-le, take_all}
pub use Rattle.std.proofs.lemmas.List.Folds.{list_any-append, list_any_at, list_any_more}
pub use Rattle.std.proofs.lemmas.Map.Keys.{IsDistinct-cons, IsDistinct-push}
pub use Rattle.std.proofs.lemmas.Map.Steps.{length-le_from_distinct_below}
pub use Rattle.std.proofs.lemmas.Option.{get_or_from_slice_get, option_and_then_some, slice_get_within}
pub use Rattle.std.proofs.lemmas.Result.{on_ok_weaker}
pub use Rattle.std.proofs.lemmas.Slice.Eq.{bytes_eq-Decides, slice_eq-Decides}
pub use Rattle.std.specs.List.{AllByRecursion}
pub use Rattle.std.specs.Vec.{with_item}
