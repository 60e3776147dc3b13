-- The names that most proofs cite, passed on from one place. Declares nothing.
pub use Rattle.authorities.specs.declared.authority.Authority.{Authority}
pub use Rattle.authorities.specs.declared.authority.Authority.TheVariants.{AsyncSend, Call, Control, Grant, Handle, Read, Receive, Reply, SyncSend, Write}
pub use Rattle.cap_machine.proofs.Applied.{read_written}
pub use Rattle.cap_machine.proofs.Fitting.{behind, first, first_or_behind, from_filter}
pub use Rattle.cap_machine.specs.Effects.{added, called, dropped, grown, grown_at, read_write, released, replied, saved, waiting, with_pending, with_root, with_space, without, without_at}
pub use Rattle.cap_machine.specs.Runs.{Run}
pub use Rattle.cap_machine.specs.StepTable.{Acts, Owes, Own, Peer, StepTo}
pub use Rattle.cap_machine.specs.declared.step.Step.{Step}
pub use Rattle.cap_model.proofs.BootPlaces.{none_saved, nothing_pending}
pub use Rattle.cap_model.specs.Auth.{Auth, Held, Structural, of_buffer, of_irq, of_mapped, of_reply, of_root, of_saved, of_space, of_table}
pub use Rattle.cap_model.specs.Confers.{confers, kind_confers, option_confers}
pub use Rattle.cap_model.specs.Kinds.{is_at, is_space_root, kind_at}
pub use Rattle.cap_model.specs.Lessened.{both_rights, lessened}
pub use Rattle.cap_model.specs.ObjectLabels.{label_of}
pub use Rattle.cap_model.specs.State.{Node, State, boot, boot_irq, boot_node, boot_thread, content_at, content_in, irq_at, no_node, no_thread, node_at, thread_at}
pub use Rattle.cap_model.specs.declared.cap.Cap.{Cap}
pub use Rattle.cap_model.specs.declared.edge.Edge.{Edge}
pub use Rattle.cap_model.specs.declared.kind.Kind.{Kind}
pub use Rattle.cap_model.specs.declared.spec.Spec.{Spec}
pub use Rattle.cap_model.specs.declared.state.Content.{Content}
pub use Rattle.cap_model.specs.declared.state.Content.TheVariants.{Capability, SavedReply}
pub use Rattle.cap_model.specs.declared.state.Mapped.{Mapped}
pub use Rattle.cap_model.specs.declared.state.Pending.{Pending}
pub use Rattle.cap_model.specs.declared.state.ThreadState.{ThreadState}
pub use Rattle.cert_check.proofs.Keeps.{runs_stay}
pub use Rattle.cert_check.specs.Valid.{Stays, Valid}
pub use Rattle.flow_model.specs.Lets.{Commands, Leads, Lets, Meets}
pub use Rattle.flow_model.specs.Touched.{IsLet, MayFill, MayTell, MayTurn, added_to}
pub use Rattle.flow_model.proofs.OneWorld.{one_act, one_world}
pub use Rattle.flow_model.proofs.Reached.{Reached, act_reached, reached_next, steps_reached, world_reached}
pub use Rattle.flow_model.proofs.StateEdges.{HasSlot, added_edge, buffer_edge, contained, leads_slot, own_edge, own_space_edge, table_controls, table_edge}
pub use Rattle.flow_model.specs.Access.{Access, BySlot, LeadsDown}
pub use Rattle.flow_model.specs.Act.{Act, Attempt, actor, allowed, await, device, fire, load, maker, refused, send, signal, step, store, tell, tell_saved, thread_of}
pub use Rattle.flow_model.specs.ActRuns.{ActRun, IsReached, acts_in}
pub use Rattle.flow_model.specs.ActTable.{ActTo, AttemptTo}
pub use Rattle.flow_model.specs.Agree.{Agree, in_set}
pub use Rattle.flow_model.specs.Flow.{IsClosed, against, along, goes_against, goes_along}
pub use Rattle.flow_model.specs.World.{Sight, World, answer, content, denied, done, message, more, put, signals}
pub use Rattle.std.proofs.Common.{Bool, List, None, Option, Some, [], ap, arith, cond, false, get_or, inl, inr, length, map, not, refl, set, subst, suc, sym, true, zero, ℕ, ◌&&◌, ◌++◌, ◌==◌, ◌∙◌, ◌∷◌, ◌≡◌, ◌⊎◌}
pub use Rattle.std.proofs.lemmas.Bool.{and_parts, cases_eq, eqb-true}
pub use Rattle.std.proofs.lemmas.List.{append-nil, length-map, length-set}
pub use Rattle.std.proofs.lemmas.List.Elements.{All-contains, All-filter, All-push, Contains-get_or, Contains-push_cases, filter-append}
pub use Rattle.std.specs.List.{All, Contains, filter}
