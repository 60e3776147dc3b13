-- The names that most proofs cite, passed on from one place. Declares nothing.
pub use Rattle.adl_meaning.specs.Prelude.{Ended, Item, Member, Place, Source, SourceFile, as_assembly, enumerate_from, filter_map, items_in, option_and_then, option_or}
pub use Rattle.adl_meaning.specs.declared.flat.Flat.{Flat}
pub use Rattle.adl_meaning.specs.declared.flat.FlatConnection.{FlatConnection}
pub use Rattle.adl_meaning.specs.declared.flat.FlatEnd.{FlatEnd}
pub use Rattle.adl_meaning.specs.declared.flat.Leaf.{Leaf}
pub use Rattle.adl_meaning.specs.declared.item_at.ItemAt.{ItemAt}
pub use Rattle.cam_base.proofs.Gathered.{flat_map-gather, gather_more, gather_same, gather_turn, length_append}
pub use Rattle.cam_base.specs.Gather.{gather}
pub use Rattle.cspace_layout.specs.Counted.{capped}
pub use Rattle.cspace_layout.specs.Uses.{uses_at, uses_by, uses_of, domain_uses, end_uses, joined_uses, lock_uses, member_uses, plan_of}
pub use Rattle.cspace_layout.specs.LeafEnds.{end_here, ends_at, ends_in, ends_of, joins, leaf_ends, member_ends}
pub use Rattle.cspace_layout.specs.Limit.{fault_at, keyword, keyword_among, keyword_in, keyword_of, limit_fault, place_in}
pub use Rattle.cspace_layout.specs.Members.{is_lock, leaf_members, members_at, members_of_leaf}
pub use Rattle.cspace_layout.specs.Passes.{by_member, connection_joined, joined, leaf_joined, picked, picks, HasEach, Spread, one_at}
pub use Rattle.cspace_layout.specs.SlotFaults.{counts, first_slot_fault, greatest}
pub use Rattle.cspace_layout.specs.System.{System, all_ends}
pub use Rattle.cspace_layout.specs.declared.end_at.EndAt.{EndAt}
pub use Rattle.cspace_layout.specs.declared.plan.SlotUse.{SlotUse}
pub use Rattle.cspace_layout.specs.declared.spread.Joined.{Joined}
pub use Rattle.std.proofs.Common.{Bool, List, None, Option, Some, [], add-one, ap, append-nil, append_assoc, arith, cond, drop, false, get_or, inl, inr, length, map, map-id, refl, replicate, set, subst, suc, sym, take, true, zero, ℕ, ◌&&◌, ◌++◌, ◌+◌}
pub use Rattle.std.proofs.Common.{◌-◌, ◌<◌, ◌^◌, ◌∙◌, ◌∷◌, ◌≡◌, ◌≤◌}
pub use Rattle.std.proofs.lemmas.Bool.{and_parts, cases_eq, eq-eqb, eqb-false, eqb-true, le-leb, leb-true, lt-leb, ne_eqb}
pub use Rattle.std.proofs.lemmas.List.{drop_more, get_or-replicate, get_or-set_other, get_or-set_same, get_or_default, length-replicate, length-set}
pub use Rattle.std.proofs.lemmas.Option.{get_or_from_slice_get, slice_get_read}
pub use Rattle.std.specs.List.{count_by, flat_map, slice_get}
pub use Rattle.std.specs.Prelude.{IfOk, OnOk, max, nat_lt, option_map, sum}
