-- The names that most proofs cite, passed on from one place. Declares nothing.
pub use Rattle.adl_meaning.proofs.Prelude.{AllByRecursion, Assembly, Bool, Component, Ended, Export, Fault, Id, List, Name, None, Option, Some, Source, SourceFile, [], ap, append_assoc, arith, as_component, as_configuration, as_connection, as_export, as_method, assemblies, bytes_eq, bytes_eq-sym, common_steps, component_named, components, cond, declared_by, drop, drop_all, drop_first, enumerate_from, false, filter_map, find, flat_map, flat_map-map, get_map, get_or, in_place, instances_by, instances_in, is_misfit, is_some, is_target, items_in, length, length-map, list_any, map, map-append, names_sound, nat_eq, nat_tests, noted, noted-append, number_named, one_assembly, option_and_then, option_copied, option_map, option_or, option_or-none, procedure_named, recursive_instance, refl, repeated_params, rules, slice_get, slice_get-map, slice_get_read, stands_before, suc, sym, true, unknown_in_one_setting, unknown_type, unled_end, unled_ends, where_true, ℕ, ◌&&◌, ◌++◌, ◌+◌, ◌<◌, ◌||◌, ◌∙◌, ◌∷◌, ◌≡◌}
pub use Rattle.adl_items.proofs.Trees.{trees-located}
pub use Rattle.adl_items.specs.Declaring.{declaring_told}
pub use Rattle.adl_items.specs.Located.{located, trees}
pub use Rattle.adl_items.specs.Pointed.{pointed}
pub use Rattle.adl_items.specs.declared.located.Located.{Located}
pub use Rattle.adl_meaning.specs.Prelude.{Bor, Held, Instance, Item, Known, Member, Port, Rises, again, as_composition, as_held, as_procedure, at_keyword, component_of, compositions, configurations, declared_as, declared_in, duplicates_in_composition, duplicates_in_item, duplicates_in_procedure, export_fault, first_name_fault, graph_of, held_as, held_by, interface_at, is_composition, is_port, is_procedure, items_of, known_in, known_of, member_of, misfits_after, misfits_in_composition, misfits_in_item, misplaced_in_item, misplaced_member, none_of, port_of, procedures, recursive_in, recursive_types, repeats, repeats_after, second_of, types_of, unknown_in_composition, unknown_in_dotted, unknown_in_item, unknown_in_line, unknown_in_member, unknown_in_setting}
pub use Rattle.adl_meaning.specs.declared.item_at.ItemAt.{ItemAt}
pub use Rattle.adl_names.specs.Bodies.{component_at, is_named, item_component, item_number, owner_of}
pub use Rattle.adl_names.specs.Places.{first_place, table_places}
pub use Rattle.adl_names.specs.Ports.{as_port, is_port_among, misfits_from}
pub use Rattle.adl_names.specs.Scopes.{scope_told}
pub use Rattle.adl_names.specs.Tables.{has_name, holding_told, members_told, naming}
pub use Rattle.adl_hierarchy.proofs.ComponentNumbers.{graph_in_range, listed, numbers_below}
pub use Rattle.indexmap.proofs.CallerLemmas.{insert_entry-new}
pub use Rattle.indexmap.specs.IndexMap.{get, insert_entry}
pub use Rattle.name_tables.proofs.NameLookups.{found_put}
pub use Rattle.name_tables.specs.ByName.{found, is_among}
pub use Rattle.std.proofs.Common.{take}
