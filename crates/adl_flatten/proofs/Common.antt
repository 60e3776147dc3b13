-- The names that most proofs cite, passed on from one place. Declares nothing.
pub use Rattle.adl_meaning.proofs.Prelude.{All-get_or, AreNamesSound, Assembly, Body, Bool, Component, Decides, End, Fault, HaveFewMembers, Hierarchy, IsIn, JoinedEnd, List, Name, None, Option, Part, Path, Placed, Reached, Refuses, Some, Source, Strung, Wire, [], all_ends, ap, append-nil, append_assoc, arith, as_assembly, assemblies, at_word, below, body, codes, common_steps, comparing, components, cond, connections, cons_option, count_by, depth, domain_at, domain_of, domains, drop, drop_first, enumerate_from, false, false_from_ne_true, filter, filter_map, first_flat_fault, first_join_fault, first_size_fault, firsts, firsts_after, flat_end, flat_ends, flat_map, flat_map-append, flat_map-map, flattened, fold, further, get_or, get_or_from_slice_get, hierarchy_of, in_one_domain, inl, inr, is_at, is_composite, is_direct, is_hardware, is_inside, is_some, join_faults_in, joined_by, joined_end, joined_ends, joined_ends_of, kind_named, leaf_of, least, leaves, leaves_in, length, length-append, length-map, limits_passed, list_all-map, list_any, list_any-append, list_any-map, longest, lookup, map, map-append, map-id, map-map, max, misplaced_device, name_of, nat_le, nat_lt, nat_tests, ne_eqb, not, noted, noted-none, noted_each, noting, one_assembly, option_map, option_map_or, option_or, outside, parted_call, place_by, placed_by, position, refl, rules, same_domain, same_path, slice_get, strung, strung_by, subst, suc, sym, take, take_all, take_more, top_number, top_of, true, true≢false, unjoined_at, unjoined_member, unwrap_or, used_twice, where_true, wires_of, zero, ℕ, ◌&&◌, ◌++◌, ◌+◌, ◌-◌, ◌<◌, ◌==◌, ◌^◌, ◌||◌, ◌∙◌, ◌∷◌, ◌≡◌, ◌≤◌}
pub use Rattle.adl_flatten.specs.Homes.{filled, grown, home, leaf_in, leaf_with, put_into}
pub use Rattle.adl_flatten.specs.TemplateJoins.{all_joined, faults_by, flat_connection_of, flat_end_of, in_one, joined_end_of, joined_of, joins, joins_apart, misplaced_call, misplaced_leaf, same_key, seen_at, tally}
pub use Rattle.adl_flatten.specs.TotalsOf.{add_part, body_total, both, ends_of, limits_in, outer, own_total, part_total, pass, saturated, totals_in, totals_of}
pub use Rattle.adl_flatten.specs.declared.limits.Totals.{Totals}
pub use Rattle.adl_hierarchy.proofs.Finite.{sound_is_finite}
pub use Rattle.adl_hierarchy.proofs.Steps.{connections_step, leaves_step}
pub use Rattle.adl_hierarchy.specs.Finite.{IsFinite}
pub use Rattle.adl_items.specs.Located.{located}
pub use Rattle.adl_items.specs.Pointed.{pointed}
pub use Rattle.adl_meaning.specs.Prelude.{Bor}
pub use Rattle.adl_meaning.specs.declared.flat.Domain.{Domain}
pub use Rattle.adl_meaning.specs.declared.flat.Leaf.{Leaf}
pub use Rattle.adl_meaning.specs.declared.item_at.ItemAt.{ItemAt}
pub use Rattle.adl_program.proofs.Filling.{IsFilled, all_filled, filled_more, inner_filled, order_below}
pub use Rattle.adl_flatten.proofs.Filling.{kinds_in}
pub use Rattle.adl_flatten.specs.AreTemplates.{IsReady}
pub use Rattle.adl_flatten.specs.Templates.{Connected, Homed, Joined, connection_in, end_in, ends_in, homed, template_connections, template_leaves}
pub use Rattle.std.proofs.Common.{set}
