-- The names that most proofs cite, passed on from one place. Declares nothing.
pub use Rattle.adl_meaning.proofs.Prelude.{From, Given, Hierarchy, Id, Interface, IsPermutation, List, Name, None, Option, Path, Role, Some, Source, To, Value, [], and_parts, ap, append_assoc, arith, at, cond, count_by, count_by_more_no, count_by_more_yes, default_at, digits_value, digits_value_after, drop, drop_first, filter, filter_map, filter_map-append, flat_map, flat_of, get_or, given, hierarchy_of, is_some, length, length-take-le, list_all, list_any, list_any-IsPermutation, lookup, map, nat_eq, nat_le, nat_tests, noted, noted-append, option_and_then, option_and_then_some, option_map, option_or, option_or-none, refl, set_within, setter_at, setting_of, slice_get, slice_get-map, subst, suc, sym, take, take-take, take_all, top_number, true, value_at, zero, ℕ, ◌++◌, ◌+◌, ◌-◌, ◌<◌, ◌^◌, ◌∙◌, ◌∷◌, ◌≡◌, ◌≤◌}
pub use Rattle.adl_meaning.specs.declared.flat.Flat.{Flat}
pub use Rattle.adl_meaning.specs.declared.flat.FlatEnd.{FlatEnd}
pub use Rattle.adl_settings.specs.BadValue.{bad_at_end, bad_in_connection, bad_in_leaf}
pub use Rattle.adl_settings.specs.BadgeTwice.{badge_twice_at, badges_twice_in}
pub use Rattle.adl_settings.specs.DeviceOverlap.{overlap_at, overlaps, region_of}
pub use Rattle.adl_settings.specs.IrqTwice.{irq_twice_at, irqs_in, irqs_twice}
pub use Rattle.adl_settings.specs.Joints.{Found, Joint, found_at, found_of, found_on, interface_at, is_from, positioned_after}
pub use Rattle.adl_settings.specs.Meant.{bad_unless, bad_value, meant}
pub use Rattle.adl_settings.specs.Repeated.{is_marked, is_repeated}
pub use Rattle.adl_settings.specs.Settled.{end_settings, settled_of}
pub use Rattle.std.proofs.Common.{false}
