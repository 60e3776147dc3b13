-- The names that most proofs cite, passed on from one place. Declares nothing.
pub use Rattle.cam_base.proofs.Options.{is_none, is_some-option_or, option_or-none, option_or-there}
pub use Rattle.name_tables.specs.ByName.{Name, found, is_among}
pub use Rattle.name_tables.specs.Naming.{AreOthers, are_digested, at_place, digest, has_room, is_digested, shown, spread_found}
pub use Rattle.name_tables.specs.Reaching.{AreReaches, IsReach, ends_behind}
pub use Rattle.name_tables.specs.Sharing.{is_same, shares}
pub use Rattle.name_tables.specs.declared.region.Region.{Region}
pub use Rattle.std.proofs.Common.{Bool, List, None, Option, Some, [], ap, ap₂, arith, cond, drop, false, get_or, is_some, length, map, nat_lt, not, refl, replicate, rules, slice_index_or, subst, suc, sym, take, true, zero, ℕ, ⊎_elim, ◌%◌, ◌++◌, ◌+◌}
pub use Rattle.std.proofs.Common.{◌<◌, ◌||◌, ◌∙◌, ◌∷◌, ◌≡◌, ◌≢◌, ◌≤◌}
pub use Rattle.std.proofs.Math.Bool.{and-false, and-true}
pub use Rattle.std.proofs.lemmas.Bool.{and_from, and_parts, and_right, cases_lt}
pub use Rattle.std.proofs.lemmas.Bool.Decides.{nat_tests}
pub use Rattle.std.proofs.lemmas.List.{get_or-set_other, get_or_append_left, get_or_push, get_or_read_under, length-set, length_push}
pub use Rattle.std.proofs.lemmas.List.Sorted.{IsNonDecreasingBy-from_sort_by_key, IsPartitionPoint-from_clause, IsPartitionedBy-ltb}
pub use Rattle.std.proofs.lemmas.Slice.Eq.{bytes_eq-Decides}
pub use Rattle.std.specs.List.{list_any, slice_get, slice_set}
pub use Rattle.std.specs.List.Sorted.{IsPartitionPoint}
pub use Rattle.std.specs.Map.{lookup}
pub use Rattle.std.specs.Option.{option_copied, option_map_or, option_or}
pub use Rattle.std.specs.Prelude.{◌&&◌, ◌==◌}
pub use Rattle.std.specs.Str.{bytes_eq}
