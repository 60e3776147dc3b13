-- The names that most proofs cite, passed on from one place. Declares nothing.
pub use Rattle.adl_meaning.proofs.Prelude.{All, All-map, All-same, Body, Bool, Component, Composition, End, Export, Hierarchy, Id, IsIn, IsInnerFirst, List, Name, None, Option, Part, Path, Placed, Reached, Some, Strung, [], all_in, and_from, and_parts, ap, arith, as_export, at_place, behind, below, body, cases_eq, common_steps, cond_both, cons_option, drop, eq-eqb, eqb-true, export_named, exports_of, false, filter_map, flat_map, flat_map_same, from_any, from_filter_map, from_get_map, further, gather, gather_turn, gathered, get_map, get_or, get_or_from_slice_get, get_or_read, graph, group_above, group_or, has, in_place, inl, inr, is_composite, is_interface, is_once, joined_by, leaves_in, length, length-flat_map-take, length-map, list_any, list_any_at, list_any_more, map, map-append, map_some, member_number, name_of, ne_eqb, option_and_then, option_and_then_some, option_map, option_map_or, option_or, or_cases, or_left, or_right, outside, part_named, place_by, placed_by, port_in, reached, reached_by, read_in, read_place, refl, same_path, slice_get, slice_index, strung, strung_by, subst, suc, sym, take, take_at, true, true_from_ne_false, true≢false, wire_of, wires_of, ℕ, ◌&&◌, ◌++◌, ◌+◌, ◌-◌, ◌<◌, ◌==◌, ◌^◌, ◌||◌, ◌∙◌, ◌∷◌, ◌≡◌, ◌≤◌, ◌⊎◌}
pub use Rattle.adl_hierarchy.proofs.Steps.{connections_step, kind_in, leaves_step, reached_step}
pub use Rattle.adl_program.proofs.Filling.{IsFilled, all_filled, filled_more, filled_same, inner_filled, order_below}
pub use Rattle.adl_program.proofs.PartNumbers.{is_named, is_unnamed}
pub use Rattle.adl_program.specs.Seen.{part_from}
pub use Rattle.adl_flatten.specs.AreTemplates.{AreBefore, AreHeld, AreInner, IsReady, IsTemplate}
pub use Rattle.adl_flatten.specs.Templates.{Homed, Joined, connection_in, connections_by, end_in, ends_in, export_target, homed, leaf_place, leaves_before, leaves_by, moved_connection, moved_end, moved_leaf, own_connections, own_end, target, target_by, target_in, target_of, template_connections, template_leaves}
pub use Rattle.adl_flatten.specs.declared.template.Template.{Template}
pub use Rattle.name_tables.specs.ByName.{found}
pub use Rattle.cam_base.proofs.Gathered.{place_of}
