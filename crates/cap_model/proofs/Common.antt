-- The names that most proofs cite, passed on from one place. Declares nothing.
pub use Rattle.authorities.specs.Authorities.{number_of}
pub use Rattle.authorities.specs.declared.authority.Authority.{Authority}
pub use Rattle.authorities.specs.declared.authority.Authority.TheVariants.{AsyncSend, Call, Control, Grant, GrantBack, Handle, Read, Receive, Reply, Reset, SyncSend, Write}
pub use Rattle.cam_base.proofs.Gathered.{get_behind, get_front, in_append, in_left, in_place, in_right, place_of, split_get}
pub use Rattle.cam_base.proofs.NumberedLists.{flat_map_same, from_flat_map, from_map, get_drop, in_flat_map, in_map, map_some, single}
pub use Rattle.cam_base.proofs.Orders.{is_equal, same_itself}
pub use Rattle.cam_base.specs.Gather.{IsIn}
pub use Rattle.cap_model.specs.Adds.{Adds, IsOfSet}
pub use Rattle.cap_model.specs.Between.{IsBetween}
pub use Rattle.cap_model.specs.Classes.{IsClassOf, OutAlike}
pub use Rattle.cap_model.specs.Confers.{confers, kind_confers, option_confers}
pub use Rattle.cap_model.specs.Edges.{AtMost, Before, edge, same_edge}
pub use Rattle.cap_model.specs.Kept.{IsKept, fits, fits_kind, keeps, keeps_lines, keeps_slots, names_differ, rise}
pub use Rattle.cap_model.specs.Kinds.{is_at, is_kind, is_root_object, is_space_root, kind_at, kind_number, kind_of_object, same_kind}
pub use Rattle.cap_model.specs.Lookup.{entry_object, object_at}
pub use Rattle.cap_model.specs.Making.{HasClass, HasNew, HasRow, IsMade, IsRun, list_cmp, pair_of, place_in}
pub use Rattle.cap_model.specs.Rows.{FirstsRise, HasPlaces, HasRising, IsClass, IsRowFrom, IsRowOf, IsRowPast, IsTable, NoRowOf, edge_to, edges_of, reply_to, table_edges}
pub use Rattle.cap_model.specs.Shared.{AreShared, PairBefore, shared_edges}
pub use Rattle.cap_model.specs.Tables.{Has, IsFirstFrom, IsSorted, has}
pub use Rattle.cap_model.specs.contracts.edge.EdgeOrd.TheImpl.Laws.{matches_eq-law, total-law}
pub use Rattle.cap_model.specs.declared.cap.Cap.{Cap}
pub use Rattle.cap_model.specs.declared.edge.Edge.{Edge}
pub use Rattle.cap_model.specs.declared.kind.Kind.{Kind}
pub use Rattle.cap_model.specs.declared.kind.Kind.TheVariants.{CNode, Endpoint, Frame, Irq, Notification, Pages, Thread}
pub use Rattle.cap_model.specs.declared.object.Object.{Object}
pub use Rattle.cap_model.specs.declared.rows.Class.{Class}
pub use Rattle.cap_model.specs.declared.rows.Row.{Row}
pub use Rattle.cap_model.specs.declared.spec.Entry.{Entry}
pub use Rattle.cap_model.specs.declared.spec.Spec.{Spec}
pub use Rattle.std.proofs.Common.{Bool, Bor, Equal, Err, Greater, IfOk, IfSome, Less, List, None, Ok, Option, Ordering, Result, Some, [], ap, append-nil, append_assoc, arith, cond, drop, false, get_or, if◌then◌else◌, inl, inr, is_ok, leb, length}
pub use Rattle.std.proofs.Common.{lit<, map, nat_le, nat_lt, not, refl, rules, slice_get, subst, suc, sym, take, true, zero, ℕ, ◌&&◌, ◌*◌, ◌++◌, ◌+◌, ◌-◌, ◌<◌, ◌==◌, ◌^◌, ◌||◌, ◌↔◌, ◌∙◌, ◌∷◌, ◌≡◌, ◌≢◌, ◌≤◌, ◌⊎◌}
pub use Rattle.std.proofs.Math.Seq.{drop-append_seam, take-append_seam}
pub use Rattle.std.proofs.lemmas.Bool.{and_parts, cases_lt, eqb-true, ltb-true, not-true, or_parts}
pub use Rattle.std.proofs.lemmas.Bool.Decides.{Decides-ltb, eqb_tells, nat_tests}
pub use Rattle.std.proofs.lemmas.List.{drop-map, get_or-map, length-append, length-drop, length-map, length-take-le, map-append, take-append-drop, take-append-le, take-map, take_all}
pub use Rattle.std.proofs.lemmas.List.Concat.{flat_map-append}
pub use Rattle.std.proofs.lemmas.List.Kept.{Contains-dedup, Contains-from_dedup, IsStrictlySortedBy-dedup, IsStrictlySortedBy-filter}
pub use Rattle.std.proofs.lemmas.List.Sorted.{Contains-permutation, IsPartitionPoint-from_clause, IsPermutation-sym}
pub use Rattle.std.proofs.lemmas.Map.Keys.{IsDistinct-from_apart, Less-from_sorted}
pub use Rattle.std.proofs.lemmas.Option.{get_or_from_slice_get, same_Some, slice_get-get_or, slice_get-map, slice_get_past, slice_get_read, slice_get_within}
pub use Rattle.std.specs.Cmp.{IsEquivalence, IsTotalOrder, on_total}
pub use Rattle.std.specs.Cmp.Derive.{one_truth}
pub use Rattle.std.specs.List.{All, AllPairs, Contains, IsDistinct, dedup, filter, flat_map, list_all, list_any, position_or_len}
pub use Rattle.std.specs.List.Sorted.{IsBinarySearchResult, IsPartitionPoint, IsPartitionedBy, IsPermutation, IsSearchInRange, IsStrictlySortedBy}
pub use Rattle.std.specs.Option.{is_some, option_map}
pub use Rattle.std.specs.Ordering.{is_eq, is_gt, is_le, is_lt, nat_cmp, ordering_index, ordering_reverse, ordering_then}
