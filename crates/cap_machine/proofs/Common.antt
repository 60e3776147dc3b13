-- The names that most proofs cite, passed on from one place. Declares nothing.
pub use Rattle.authorities.specs.declared.authority.Authority.{Authority}
pub use Rattle.authorities.specs.declared.authority.Authority.TheVariants.{AsyncSend, Control}
pub use Rattle.cap_machine.specs.Checks.{acts, any, cap_of, capability, checks, first_failing, has_cap, hears, is_capability, is_saved_reply, listens, meets, no_reply, owed_by, owes, own, reachable, reply_of, root_of, saved_reply, saves}
pub use Rattle.cap_machine.specs.Decide.{acting, and_then, any_cap, asking, caller_root, changed, decide, found_cap, found_reply, or_why, owed, own_cap, own_reply, peer_cap, peer_root}
pub use Rattle.cap_machine.specs.Effects.{added, dropped, grown, grown_at, read_write, replied, waiting, with_pending, with_root, with_space, without, without_at}
pub use Rattle.cap_machine.specs.Perform.{TakesMemory, Turned, parts}
pub use Rattle.cap_machine.specs.Progress.{Bootable, NextsFit, Progress}
pub use Rattle.cap_machine.specs.Sources.{OfCap, OfEach, OfLink, OfObject, OfOption, OfSpec}
pub use Rattle.cap_machine.specs.StateSources.{OfAdded, OfContent, OfFixed, OfNode, OfNodes, OfSpecParts, OfState, OfThread, OfThreads}
pub use Rattle.cap_machine.specs.StepTable.{Acts, Own, Peer, StepTo}
pub use Rattle.cap_machine.specs.declared.change.Change.{Change}
pub use Rattle.cap_machine.specs.declared.step.Step.{Step}
pub use Rattle.cap_machine.specs.declared.step.Step.TheVariants.{Bind, Call, Drop, Grant, Map, Put, Reply, ReplyTo, Save, SetCspace, SetVspace, Take}
pub use Rattle.cap_machine.specs.declared.step.Why.{Why}
pub use Rattle.cap_machine.specs.declared.step.Why.TheVariants.{NoCap, NoGrant, NoPending, NoRight, NoRoot, OtherEndpoint, PeerNoCap, PeerNoRight, PeerNoRoot, PeerWaiting, PeerWrongKind, SamePeer, Waiting, WrongKind}
pub use Rattle.cap_model.proofs.BootPlaces.{at_contains, at_entry, contains_at, entry_at, none_saved, nothing_pending, slot_of}
pub use Rattle.cap_model.specs.Adds.{Adds}
pub use Rattle.cap_model.specs.Auth.{Auth, buffer_of, of_buffer, of_irq, of_mapped, of_reply, of_root, of_saved, of_space, of_table, table_of}
pub use Rattle.cap_model.specs.Edges.{edge}
pub use Rattle.cap_model.specs.FitsSpec.{ContentFits, FitsSpec, IrqFits, MappedFits, NodeFits, ReplyFits, ThreadFits}
pub use Rattle.cap_model.specs.Kept.{IsKept, fits, fits_as, if_any, keeps, keeps_cnode, keeps_slots, rise}
pub use Rattle.cap_model.specs.Kinds.{is_at, is_space_root, kind_at, kind_of_object, same_kind}
pub use Rattle.cap_model.specs.Lessened.{both_rights, lessened}
pub use Rattle.cap_model.specs.Lookup.{entry_object}
pub use Rattle.cap_model.specs.ObjectLabels.{label_of}
pub use Rattle.cap_model.specs.State.{Node, State, boot, boot_irq, boot_node, boot_slot, boot_thread, content_in, irq_at, no_node, no_thread, node_at, thread_at}
pub use Rattle.cap_model.specs.Tables.{Has, has}
pub use Rattle.cap_model.specs.declared.cap.Cap.{Cap}
pub use Rattle.cap_model.specs.declared.edge.Edge.{Edge}
pub use Rattle.cap_model.specs.declared.object.Object.{Object}
pub use Rattle.cap_model.specs.declared.object.Object.TheVariants.{CNode, Endpoint, Frame, Irq, Notification, Pages, Thread}
pub use Rattle.cap_model.specs.declared.spec.Entry.{Entry}
pub use Rattle.cap_model.specs.declared.spec.Spec.{Spec}
pub use Rattle.cap_model.specs.declared.state.Content.{Content}
pub use Rattle.cap_model.specs.declared.state.Content.TheVariants.{Capability, SavedReply}
pub use Rattle.cap_model.specs.declared.state.Mapped.{Mapped}
pub use Rattle.cap_model.specs.declared.state.Pending.{Pending}
pub use Rattle.cap_model.specs.declared.state.ThreadState.{ThreadState}
pub use Rattle.std.proofs.Common.{Bool, Err, IsSome, Less, List, None, Ok, Option, Result, Some, ℕ, [], ap, arith, false, get_or, inl, inr, leb, length, lit<, map, nat_lt, not, refl, rules, set, slice_get, subst, suc, sym, take, true, zero, ◌%◌, ◌&&◌, ◌*◌}
pub use Rattle.std.proofs.Common.{◌++◌, ◌+◌, ◌<◌, ◌==◌, ◌^◌, ◌||◌, ◌↔◌, ◌∙◌, ◌∷◌, ◌≡◌, ◌≢◌, ◌≤◌, ◌⊎◌}
pub use Rattle.std.proofs.Math.Pow.{pow_mono}
pub use Rattle.std.proofs.lemmas.Bool.{and_parts, cases_lt, eqb-true, not-true}
pub use Rattle.std.proofs.lemmas.List.{length-map, length-set, length_push, map_more}
pub use Rattle.std.proofs.lemmas.Option.{get_or_from_slice_get, slice_get-get_or, slice_get-map, slice_get_read, slice_get_within}
pub use Rattle.std.specs.BTreeMap.{IsOrdered, insert_entry}
pub use Rattle.std.specs.List.{All, AllByRecursion, Contains, filter, list_all}
pub use Rattle.std.specs.Ordering.{is_eq, nat_cmp}
