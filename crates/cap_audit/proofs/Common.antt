-- The names that most proofs cite, passed on from one place. Declares nothing.
pub use Rattle.authorities.specs.declared.authority.Authority.{Authority}
pub use Rattle.authorities.specs.declared.authority.Authority.TheVariants.{AsyncSend, Receive, Reply}
pub use Rattle.cam_base.proofs.Lists.{from_filter_map, get_or-before_last, get_or-last, to_filter_map}
pub use Rattle.cap_audit.specs.Audited.{Audited, at_boot, of_bind, of_call, of_map, of_save, of_spread}
pub use Rattle.cap_audit.specs.Counts.{cap_count, cnode_count}
pub use Rattle.cap_audit.specs.Covering.{AreAlike, AreCovered, AreHubs, AreRoots, Covered, Covers, CoversPair, Doors, GoesOn, HasSlots, IsFoundAt, IsSearch, Links, Opens, hub_of}
pub use Rattle.cap_audit.specs.Gains.{Below, Gains, IsAll, IsMade, IsSoFar, Made, Notes, OfFace, OfPair, OfSome}
pub use Rattle.cap_audit.specs.Gates.{AreGates, AreMet, AreParties, ArePlaces, AreReady, AreRosters, Between, Greets, MayCallAt, MeetBy, Meets, OfCall, OfKinds, OfListening, OfParties, call_steps, caller_of, enrolled, gated}
pub use Rattle.cap_audit.specs.Hubs.{Allows, Attends, Fills, Gathering, IsHub, IsMember, Joins, Passes, StandsAt, course_of, members_at, opposite, side_of, with_member}
pub use Rattle.cap_audit.specs.Kinds.{AreFirsts, AreHeadRoots, AreHeads, AreLeft, AreMembers, AreRootMarks, AreRows, AreStandIns, IsLike, IsQueued, StandsFor, root_mark, stand_in}
pub use Rattle.cap_audit.specs.Nets.{Lanes}
pub use Rattle.cap_audit.specs.Picks.{IsHeld, OfDeed, OfDeeds, OfRoot, OfRoots, OwnsAll, OwnsBoth, OwnsFrom, deed_step, is_wanted, pick_of, place_in, place_of, wanted_from, wanted_to}
pub use Rattle.cap_audit.specs.Quiet.{Quiet}
pub use Rattle.cap_audit.specs.Refusals.{HasNoThread, IsFirstThread, IsThreadSlot}
pub use Rattle.cap_audit.specs.Reports.{IsReport}
pub use Rattle.cap_audit.specs.Rows.{row_at, with_more}
pub use Rattle.cap_audit.specs.Search.{Brings, Found, Grows, HoldsAt, IsFound, IsWay, Leads, bare, held_by, is_known, landed, marks_of, misses, steps_of, unknowns, whole}
pub use Rattle.cap_audit.specs.Showing.{AreKinds, IsBegun, OfAllCalls, OfAllDeeds, OfBoot, by_bind, by_map}
pub use Rattle.cap_audit.specs.Shows.{Shows}
pub use Rattle.cap_audit.specs.Spread.{HasRoot, HaveRoots, HoldsNoThread, IsClosed, MayCall, MayGrant, Meet, Spread, root_of, slots_at, slots_of}
pub use Rattle.cap_audit.specs.Start.{HasValue, IsCounted, Marks, Queued, Starts, blank_row, blank_rows, owned, rooted, with_mark, with_rows, with_value}
pub use Rattle.cap_audit.specs.Ways.{AllGo, AreWays, Connects, GoesAlong, InClass, IsWeb, JoinsBack, Later, LeadsTo, Merges, Near, Path, Unites, Widened, Widens, along, at_end, ways_from, with_way}
pub use Rattle.cap_audit.specs.Within.{AddedBy, Binds, Calls, ContentWithin, Holds, IsWithin, Owed, Saved}
pub use Rattle.cap_audit.specs.declared.found.Course.{Course}
pub use Rattle.cap_audit.specs.declared.found.Held.{Held}
pub use Rattle.cap_audit.specs.declared.found.Pair.{Pair}
pub use Rattle.cap_audit.specs.declared.found.Way.{Way}
pub use Rattle.cap_audit.specs.declared.gates.Place.{Place}
pub use Rattle.cap_audit.specs.declared.hubs.Member.{Member}
pub use Rattle.cap_audit.specs.declared.hubs.Passage.{Passage}
pub use Rattle.cap_audit.specs.declared.hubs.Side.{Side}
pub use Rattle.cap_audit.specs.declared.ways.Web.{Web}
pub use Rattle.cap_audit.specs.declared.making.Deed.{Deed}
pub use Rattle.cap_audit.specs.declared.picks.Pick.{Pick}
pub use Rattle.cap_audit.specs.declared.picks.Wanted.{Wanted}
pub use Rattle.cap_machine.proofs.Applied.{read_written}
pub use Rattle.cap_machine.proofs.Booting.{all_bootable, at_object, boot_fits}
pub use Rattle.cap_machine.proofs.Fitting.{behind, first, first_or_behind, from_filter, step_fits}
pub use Rattle.cap_machine.proofs.NodeSlots.{rest_rises}
pub use Rattle.cap_machine.specs.Effects.{added, called, called_threads, dropped, grown, grown_at, read_write, released, replied, replied_threads, saved, waiting, with_pending, without, without_at}
pub use Rattle.cap_machine.specs.Runs.{Reaches, Run}
pub use Rattle.cap_machine.specs.Sources.{OfCap, OfLink}
pub use Rattle.cap_machine.specs.StepTable.{Acts, Own, Peer, StepTo}
pub use Rattle.cap_machine.specs.declared.step.Step.{Step}
pub use Rattle.cap_model.proofs.BootPlaces.{at_contains, at_entry, contains_at, entry_at, nothing_pending, slot_of}
pub use Rattle.cap_model.proofs.Conferring.{lessened_confers, lessened_kind}
pub use Rattle.cap_model.proofs.EdgeOrder.{edges_same}
pub use Rattle.cap_model.proofs.Kept.{all_at, is_at_below, kind_is, object_kept}
pub use Rattle.cap_model.proofs.MadeRows.{pushed_last}
pub use Rattle.cap_model.proofs.TableMembers.{at_has, has_at}
pub use Rattle.cap_model.specs.Adds.{Adds, Is}
pub use Rattle.cap_model.specs.Auth.{Auth, Structural, of_buffer, of_irq, of_mapped, of_reply, of_root, of_saved, of_space, of_table}
pub use Rattle.cap_model.specs.Confers.{confers, kind_confers}
pub use Rattle.cap_model.specs.Edges.{edge}
pub use Rattle.cap_model.specs.Kept.{IsKept, fits, keeps, keeps_slots, rise}
pub use Rattle.cap_model.specs.Kinds.{is_at, is_space_root, kind_at, kind_of_object}
pub use Rattle.cap_model.specs.Lessened.{both_rights, lessened}
pub use Rattle.cap_model.specs.Lookup.{object_at}
pub use Rattle.cap_model.specs.ObjectLabels.{label_of}
pub use Rattle.cap_model.specs.State.{Node, State, boot, boot_node, boot_slot, boot_thread, content_at, content_in, no_node, no_thread, node_at, thread_at}
pub use Rattle.cap_model.specs.Tables.{Has, has}
pub use Rattle.cap_model.specs.declared.cap.Cap.{Cap}
pub use Rattle.cap_model.specs.declared.edge.Edge.{Edge}
pub use Rattle.cap_model.specs.declared.object.Object.{Object}
pub use Rattle.cap_model.specs.declared.rights.Rights.{Rights}
pub use Rattle.cap_model.specs.declared.spec.Entry.{Entry}
pub use Rattle.cap_model.specs.declared.spec.Spec.{Spec}
pub use Rattle.cap_model.specs.declared.state.Content.{Content}
pub use Rattle.cap_model.specs.declared.state.Content.TheVariants.{Capability, SavedReply}
pub use Rattle.cap_model.specs.declared.state.Mapped.{Mapped}
pub use Rattle.cap_model.specs.declared.state.Pending.{Pending}
pub use Rattle.cap_model.specs.declared.state.ThreadState.{ThreadState}
pub use Rattle.std.proofs.Common.{Bool, List, None, Option, Some, [], add-one, ap, append_assoc, arith, drop, drop-cons, false, get_or, if◌then◌else◌, inl, inr, leb, length, map, nat_lt, not, refl, replicate, rules, set, slice_get, slice_index, slice_set, subst, suc}
pub use Rattle.std.proofs.Common.{sym, take, true, zero, ℕ, ◌&&◌, ◌*◌, ◌++◌, ◌+◌, ◌-◌, ◌<◌, ◌==◌, ◌^◌, ◌||◌, ◌↔◌, ◌∙◌, ◌∷◌, ◌≡◌, ◌≢◌, ◌≤◌, ◌⊎◌}
pub use Rattle.std.proofs.Math.Seq.{drop-length, get_or-append_seam}
pub use Rattle.std.proofs.lemmas.Bool.{and_parts, cases_eq, cases_lt, eq-eqb, eqb-false, eqb-true, ne_eqb}
pub use Rattle.std.proofs.lemmas.List.{append-nil, get_or-set_other, get_or-set_same, get_or_append_left, get_or_default, get_or_past, length-append, length-map, length-set, set_past, take_all, with_items_is}
pub use Rattle.std.proofs.lemmas.List.Elements.{Contains-append_left, Contains-get_or, Contains-push, Contains-push_cases, filter-append}
pub use Rattle.std.proofs.lemmas.Map.Views.{Contains-from_lookup}
pub use Rattle.std.proofs.lemmas.Option.{get_or_from_slice_get, same_Some, slice_get-get_or, slice_get-map, slice_get_within}
pub use Rattle.std.specs.List.{All, Contains, filter, filter_map, list_all, sum_by}
