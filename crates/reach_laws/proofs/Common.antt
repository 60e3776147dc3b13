-- The names that most proofs cite, passed on from one place. Declares nothing.
pub use Rattle.adl_ast.specs.declared.composition.Role.{Role}
pub use Rattle.adl_ast.specs.declared.composition.Role.TheVariants.{From, To}
pub use Rattle.adl_meaning.specs.declared.connector.Connector.{Connector}
pub use Rattle.adl_meaning.specs.declared.connector.Connector.TheVariants.{Direct, Interrupt, Mmio, Rpc, SharedMemory}
pub use Rattle.adl_meaning.specs.declared.flat.Leaf.{Leaf}
pub use Rattle.arch_policy.proofs.Given.{an_authority, implied, implies, over_object}
pub use Rattle.arch_policy.proofs.Listed.{listed, lock_of_member, triples_are_policy}
pub use Rattle.arch_policy.specs.Ends.{EndAt, IsEnd, LockAt}
pub use Rattle.arch_policy.specs.Gives.{gives, leaves, opposite, same_object}
pub use Rattle.arch_policy.specs.Owners.{has_label, owner_in}
pub use Rattle.arch_policy.specs.Policies.{IsCertificateOf, IsLockEdge, IsPolicyOf}
pub use Rattle.arch_policy.specs.Reasons.{AtOtherEnd, DirectReason, Handles, IsReasoned, LeadsTo, Reason, by_bind, by_call, by_direct, by_lock}
pub use Rattle.arch_policy.specs.Tables.{AreApart, IsThere, Tables, connection_label, domain_label, leaf_label, number_of}
pub use Rattle.arch_policy.specs.Triples.{lock_edge, lock_edges, triples}
pub use Rattle.authorities.specs.declared.authority.Authority.{Authority}
pub use Rattle.authorities.specs.declared.authority.Authority.TheVariants.{AsyncSend, Call, Control, Grant, GrantBack, Handle, Read, Receive, Reply, Write}
pub use Rattle.cap_machine.specs.Effects.{called, dropped, grown, grown_at, waiting, with_pending, without}
pub use Rattle.cap_machine.specs.Runs.{Reaches, Run}
pub use Rattle.cap_machine.specs.StepTable.{Acts, Own, Peer, StepTo}
pub use Rattle.cap_model.proofs.BootPlaces.{contains_at, entry_at, none_saved, nothing_pending, number_found}
pub use Rattle.cap_model.specs.Auth.{Auth, Held, OfTable, Structural, buffer_of, of_buffer, of_irq, of_mapped, of_reply, of_root, of_saved, of_space, of_table, table_of}
pub use Rattle.cap_model.specs.Confers.{confers, kind_confers, option_confers}
pub use Rattle.cap_model.specs.Edges.{edge}
pub use Rattle.cap_model.specs.Kinds.{is_at, is_kind, is_root_object, is_space_root, kind_at, same_kind}
pub use Rattle.cap_model.specs.Lookup.{entry_object, object_at}
pub use Rattle.cap_model.specs.ObjectLabels.{label_of}
pub use Rattle.cap_model.specs.State.{Node, State, boot, boot_irq, boot_thread, content_in, irq_at, no_node, no_thread, node_at, thread_at}
pub use Rattle.cap_model.specs.Tables.{Has}
pub use Rattle.cap_model.specs.declared.cap.Cap.{Cap}
pub use Rattle.cap_model.specs.declared.edge.Edge.{Edge}
pub use Rattle.cap_model.specs.declared.kind.Kind.{Kind}
pub use Rattle.cap_model.specs.declared.kind.Kind.TheVariants.{CNode, Endpoint, Frame, Irq, Notification, Pages, Thread}
pub use Rattle.cap_model.specs.declared.object.Object.{Object}
pub use Rattle.cap_model.specs.declared.rights.Rights.{Rights}
pub use Rattle.cap_model.specs.declared.spec.Entry.{Entry}
pub use Rattle.cap_model.specs.declared.spec.Spec.{Spec}
pub use Rattle.cap_model.specs.declared.state.Content.TheVariants.{Capability, SavedReply}
pub use Rattle.cap_model.specs.declared.state.Pending.{Pending}
pub use Rattle.cap_model.specs.declared.state.ThreadState.{ThreadState}
pub use Rattle.cert_check.specs.Valid.{Valid}
pub use Rattle.conn_rules.specs.Row.{RW, same_connector, same_role}
pub use Rattle.conn_rules.specs.declared.rule.ObjectKind.{ObjectKind}
pub use Rattle.conn_rules.specs.declared.rule.ObjectKind.TheVariants.{NoObject, OfDevice, OfEndpoint, OfFrames, OfIrq, OfNotification}
pub use Rattle.reach_laws.specs.Flat.{IsFlat, is_at_device}
pub use Rattle.reach_laws.specs.LaidOut.{IsLaidOut}
pub use Rattle.std.proofs.Common.{Bool, List, None, Option, Some, ℕ, [], ap, arith, false, get_or, inl, inr, length, nat_lt, not, refl, rules, set, subst, sym, true, true≢false, ◌&&◌, ◌++◌, ◌<◌, ◌==◌, ◌||◌, ◌↔◌, ◌∙◌, ◌∷◌, ◌≡◌, ◌≢◌, ◌⊎◌}
pub use Rattle.std.proofs.lemmas.Bool.{and_parts, cases_eq}
pub use Rattle.std.proofs.lemmas.Option.{get_or_from_slice_get, slice_get_within}
pub use Rattle.std.specs.List.{All, Contains, list_all, list_any, slice_get}
