-- The names that most proofs cite, passed on from one place. Declares nothing.
pub use Rattle.adl_meaning.specs.declared.connector.Connector.{Connector}
pub use Rattle.adl_meaning.specs.declared.connector.Connector.TheVariants.{Direct, Interrupt, Mmio, Notification, Rpc, SharedMemory}
pub use Rattle.adl_meaning.specs.declared.flat.Domain.{Domain}
pub use Rattle.adl_meaning.specs.declared.flat.FlatConnection.{FlatConnection}
pub use Rattle.arch_policy.specs.declared.owner.Owner.{Owner}
pub use Rattle.arch_policy.specs.declared.owner.Owner.TheVariants.{OfConnection, OfDomain}
pub use Rattle.cam_base.proofs.Gathered.{from_gather, from_ones, from_place, gather_map, gather_more, gather_ones, gather_same, gather_turn, get_ones, in_append, in_gather, in_left, in_place, in_right, length_append, place_of}
pub use Rattle.cam_base.proofs.Gathered.{split_get}
pub use Rattle.cam_base.proofs.NumberedLists.{at_place, get_map, length-gather, read_in, read_place, single, taken_le}
pub use Rattle.cam_base.specs.Gather.{IsIn, before, gather}
pub use Rattle.cam_io.proofs.Saying.{says_line, says_lines, says_more, says_nothing, says_then}
pub use Rattle.cam_io.specs.Saying.{Says}
pub use Rattle.cap_model.specs.Lookup.{entry_name, entry_object, object_at}
pub use Rattle.cap_model.specs.declared.level.Level.{Level}
pub use Rattle.cap_model.specs.declared.level.Level.TheVariants.{Directory, Global, Table, Upper}
pub use Rattle.cap_model.specs.declared.object.Object.{Object}
pub use Rattle.cap_model.specs.declared.object.Object.TheVariants.{Endpoint, Irq}
pub use Rattle.conn_rules.specs.Row.{RW}
pub use Rattle.cspace_layout.specs.declared.plan.SlotUse.{SlotUse}
pub use Rattle.cspace_layout.specs.declared.plan.SlotUse.TheVariants.{OfEnd, OwnLock}
pub use Rattle.page_tables.proofs.Counted.{counts_of_addresses, levels_of_addresses}
pub use Rattle.page_tables.proofs.Leveled.{as_many}
pub use Rattle.page_tables.specs.Levels.{layers, level_of}
pub use Rattle.page_tables.specs.Runs.{Rises}
pub use Rattle.page_tables.specs.Shapes.{shapes}
pub use Rattle.std.proofs.Common.{Bool, List, None, Option, Some, [], add-one, ap, append_assoc, arith, cond, drop, false, filter, get_or, inl, inr, is_lt, length, map, nat_cmp, nat_lt, refl, rules, subst, suc, suc-le-suc, sym, take, true, zero}
pub use Rattle.std.proofs.Common.{zero-le, ℕ, ◌*◌, ◌++◌, ◌+◌, ◌-◌, ◌<◌, ◌==◌, ◌^◌, ◌∙◌, ◌∷◌, ◌≡◌, ◌≤◌, ◌⊎◌}
pub use Rattle.std.proofs.Math.Dec.{ltb}
pub use Rattle.std.proofs.lemmas.Bool.{cases_Bool, cases_eq, cond-false, cond-true, le-ltb, leb-false, leb-true, lt-ltb, ltb-false, ltb-true, ne_eqb}
pub use Rattle.std.proofs.lemmas.Iterator.Adapters.{YieldsList-from_vec, serves_from_places}
pub use Rattle.std.proofs.lemmas.List.{append-nil, get_or_default, length-map, length-take-le, map-append, take_all}
pub use Rattle.std.proofs.lemmas.List.Sorted.{IsNonDecreasingBy-from_sort, IsPartitionPoint-from_clause, IsPartitionedBy-ltb, answers_always}
pub use Rattle.std.proofs.lemmas.Option.{get_or_from_slice_get, slice_get-get_or, slice_get_past, slice_get_read, slice_get_within}
pub use Rattle.std.proofs.lemmas.Result.{IfOk-weaker}
pub use Rattle.std.specs.List.{count_by, find, flat_map, slice_get}
pub use Rattle.std.specs.List.Sorted.{IsNonDecreasingBy, IsPartitionPoint, IsStableByKey, ties}
pub use Rattle.std.specs.Option.{option_map, option_map_or}
pub use Rattle.std.specs.Prelude.{leb, slice_index}
pub use Rattle.std.specs.Vec.Iter.{into_iter_items, into_iter_len, into_iter_steps}
pub use Rattle.system_spec.specs.Bits.{IsLeastBits, bits_for, bits_from}
pub use Rattle.system_spec.specs.Buildable.{AreFew, AreShown, table_count, AreNamed, NamesOneOf}
pub use Rattle.system_spec.specs.Landmarks.{IsThere, all_spaces, space_tables, has_endpoint, has_irq, has_notification, holds_lock, mark, one, places_from, stands}
pub use Rattle.system_spec.specs.Parts.{counted, counts, counts_in, one_more, all_tables, cnodes, domain_locks, domain_tables, domain_tcbs, endpoint, endpoint_by, endpoints, first_of, frame_part, frame_parts, irq, irq_by, irqs, is_of, lock}
pub use Rattle.system_spec.specs.Parts.{locks, notification, notification_by, notifications, numbered, owned, page_mapping, page_table, part, parts, place, sections, table_part, table_parts, tables_at, tcbs, threads_of, together}
pub use Rattle.system_spec.specs.Made.{entry, entry_with, part_label, spec_of}
pub use Rattle.system_spec.specs.MapLines.{domain_lines, domain_slots, domain_threads, domain_windows, slot_line, slot_lines, thread_lines, thread_lines_from, window_line, window_lines}
pub use Rattle.system_spec.specs.MapText.{line_text, named}
pub use Rattle.system_spec.specs.Objects.{buffer_cap, by_number, cap, frame_at, joint, joint_by, line, line_by, object, put_line, rights_at, tcb, use_cap, use_cap_at}
pub use Rattle.system_spec.specs.Tables.{Tables, arch, frame_owner, irq_owner, leaf_entry, leaf_name, pages_at, priority, threads_at, uses_at, told}
pub use Rattle.system_spec.specs.declared.map_line.MapLine.TheVariants.{DomainLine, ThreadLine}
pub use Rattle.system_spec.specs.declared.part.Owned.{Owned}
pub use Rattle.system_spec.specs.declared.part.PageTable.{PageTable}
pub use Rattle.system_spec.specs.declared.part.Part.{Part}
pub use Rattle.system_spec.specs.declared.part.What.TheVariants.{CNodeOf, EndpointOf, FrameOf, IrqOf, LockOf, NotificationOf, TableOf, ThreadOf}
pub use Rattle.system_spec.specs.declared.series.Series.{Series}
pub use Rattle.system_spec.specs.declared.series.Series.TheVariants.{CNode, Frame}
pub use Rattle.vspace_layout.specs.declared.spaces.FrameInfo.{FrameInfo}
pub use Rattle.vspace_layout.specs.declared.spaces.Page.{Page}
pub use Rattle.vspace_layout.specs.declared.spaces.ThreadPlace.{ThreadPlace}
pub use Rattle.vspace_layout.specs.declared.spaces.Window.{Window}
