-- The names that most proofs cite, passed on from one place. Declares nothing.
pub use Rattle.adl_meaning.proofs.Prelude.{AreFew, Assembly, Body, Bool, Component, End, Export, Hierarchy, Id, Interface, IsIn, IsInnerFirst, List, Name, None, Option, Part, Reached, Some, Source, [], ap, arith, as_assembly, as_component, as_configuration, as_connection, as_export, assemblies, behind, body, body_of, bytes_eq, cases_eq, common_steps, components, cond, declared_by, drop, enumerate_from, export_named, exports_of, false, few_components, filter_map, find, flat_map, from_enumerate, get_or, get_or-set_other, get_or-set_same, graph, has, hierarchy_of, in_place, inl, inr, is_composite, is_hardware, is_interface, is_some, joined_by, kind_named, length, length-map, length-set, list_any, list_any_more, map, map_some, name_of, nat_eq, nat_tests, number_named, option_and_then, option_copied, option_map, option_map_or, option_or, option_or-none, or-false, part_named, part_of, parts_by, place_by, port_in, reached, reached_by, refl, slice_get, subst, suc, sym, take, take_all, top_of, true, unwrap_or, wire_of, wires_of, zero, ℕ, ◌++◌, ◌+◌, ◌-◌, ◌<◌, ◌^◌, ◌||◌, ◌∙◌, ◌∷◌, ◌≡◌, ◌≤◌}
pub use Rattle.adl_hierarchy.proofs.Finite.{graph_size}
pub use Rattle.adl_hierarchy.proofs.Steps.{kind_in, listed, reached_step}
pub use Rattle.adl_items.specs.Located.{located, trees}
pub use Rattle.adl_program.specs.Leads.{AreExportsOf, AreInnerLeads, AreLeadsOf, inner_port}
pub use Rattle.adl_program.specs.LedEnds.{lead_by, lead_of, lead_to, led_end, led_wire}
pub use Rattle.adl_program.specs.LeafInterfaces.{leaf_at, leaf_by, leaf_from, leaf_in, leaf_placed, port_at, port_by, port_reached}
pub use Rattle.adl_program.specs.Seen.{part_from}
pub use Rattle.adl_program.specs.declared.body.Port.{Port}
pub use Rattle.adl_program.specs.declared.leads.Lead.{Lead}
pub use Rattle.adl_program.specs.declared.leads.Leads.{Leads}
pub use Rattle.adl_program.specs.declared.part.PartAt.{PartAt}
pub use Rattle.name_tables.specs.ByName.{found}
pub use Rattle.std.proofs.Math.ListN.{set}
pub use Rattle.std.specs.Prelude.{slice_index_or}
