-- The names that most proofs cite, passed on from one place. Declares nothing.
pub use Rattle.adl_meaning.proofs.Prelude.{Body, Bool, Component, Fault, Given, Global, Hierarchy, Id, List, Name, None, Option, Part, Path, Refuses, Setting, Some, Source, Vec, ℕ, [], and_parts, ap, append_assoc, arith, at, body, bytes_eq, bytes_eq-Decides, bytes_eq-sym, codes, common_steps, cond, declared_by, default_at, drop, drop-append-le, drop-map, drop_all, drop_first, enumerate_from, false, filter, filter_map, find, find_passes, flat_map, flat_of, get_or, get_or_append_left, get_or_default, get_or_past, get_or_push, given, hierarchy_of, inl, inner_names, inr, is_group, is_none, is_some, is_some-option_or, last_name, least, length, length-append, length-drop, length-take, list_any, lookup, map, map-append, max, min, nat_tests, nil_from_length, not, noted, noted-append, noted-none, option_and_then, option_copied, option_map, option_map_or, option_or, option_or-cond, option_or-none, option_or-there, or-false, part_named, path_of, pointwise, pointwise-map, refl, same_path, same_path-true, set_within, sets, setter_at, setting_of, settings_of, slice_get, subst, suc, sym, take, take-length, top_number, true, value_at, where_true, zero, ◌&&◌, ◌*◌, ◌++◌, ◌+◌, ◌-◌, ◌<◌, ◌||◌, ◌∙◌, ◌∷◌, ◌≡◌, ◌≤◌, take_all, take_more}
pub use Rattle.adl_items.specs.Pointed.{pointed}
pub use Rattle.adl_meaning.specs.Prelude.{Bor, Member}
pub use Rattle.adl_settings.specs.Joints.{found_of, found_on, founds_in, positioned_after, size_of, value_of}
pub use Rattle.adl_settings.specs.Meant.{where_set}
pub use Rattle.adl_settings.specs.SettingTwice.{Met, repeated_after, repeated_in, setting_twice, settings_twice}
pub use Rattle.adl_settings.specs.Settled.{leaf_found, leaves_found}
pub use Rattle.adl_settings.specs.Lookups.{IsTable, attribute_at, given_from, groups, path_from, remembered, setting_found}
pub use Rattle.adl_settings.specs.declared.tables.SettingTable.{SettingTable}
pub use Rattle.std.proofs.lemmas.Bool.{cases_lt}
