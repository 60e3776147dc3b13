-- The names that most proofs cite, passed on from one place. Declares nothing.
pub use Rattle.authorities.specs.Authorities.{number_of}
pub use Rattle.authorities.specs.declared.authority.Authority.{Authority}
pub use Rattle.authorities.specs.declared.authority.Authority.TheVariants.{AsyncSend, Call, Control, Grant, GrantBack, Handle, Receive, Reply, Reset}
pub use Rattle.cap_model.proofs.BootPlaces.{at_contains, at_entry, boot_contains, contains_at, entry_at, none_saved, nothing_pending, slot_of}
pub use Rattle.cap_model.proofs.EdgeCompare.{eq-same, first_not_less}
pub use Rattle.cap_model.proofs.EdgeOrder.{at_most_before, at_most_both, at_most_self, at_most_trans, before_at_most, edges_same, not_before_self, same_number}
pub use Rattle.cap_model.proofs.TableMembers.{at_has, has_at, later_at_most}
pub use Rattle.cap_model.specs.Auth.{Auth, Held, Structural, buffer_of, of_buffer, of_irq, of_mapped, of_reply, of_root, of_saved, of_space, of_table, table_of}
pub use Rattle.cap_model.specs.Classes.{IsClassOf, IsLeastAlike, OutAlike}
pub use Rattle.cap_model.specs.Confers.{confers, kind_confers}
pub use Rattle.cap_model.specs.Edges.{AtMost, Before, edge}
pub use Rattle.cap_model.specs.ObjectLabels.{label_of}
pub use Rattle.cap_model.specs.State.{Node, State, boot, boot_irq, boot_node, boot_slot, boot_thread, content_in, irq_at, no_node, no_thread, node_at, thread_at}
pub use Rattle.cap_model.specs.Tables.{Finds, Has, IsFirstFrom, IsSorted, has}
pub use Rattle.cap_model.specs.declared.cap.Cap.{Cap}
pub use Rattle.cap_model.specs.declared.edge.Edge.{Edge}
pub use Rattle.cap_model.specs.declared.object.Object.TheVariants.{CNode, Endpoint, Irq, Notification, Pages, Thread}
pub use Rattle.cap_model.specs.declared.spec.Entry.{Entry}
pub use Rattle.cap_model.specs.declared.spec.Spec.{Spec}
pub use Rattle.cap_model.specs.declared.state.Content.{Content}
pub use Rattle.cap_model.specs.declared.state.Content.TheVariants.{Capability, SavedReply}
pub use Rattle.cap_model.specs.declared.state.Pending.{Pending}
pub use Rattle.cap_model.specs.declared.state.ThreadState.{ThreadState}
pub use Rattle.cert_check.specs.Least.{FindsLeast, Holds, LeastOf, NotAfter}
pub use Rattle.cert_check.specs.Meetings.{Alike, AreMet, Breaks, GoesLike, Halved, HasPartners, IsFirstNotBefore, IsLed, IsReach, MeetToo, OfPartners, With, end_of, first_authority, partner_authority, partner_of}
pub use Rattle.cert_check.specs.Parts.{AreOthers, Asked, BreaksPair, BufferLack, CapLack, FindsLeastAt, LesserEdge, LesserOf, LinkLack, ObjectLack, OfBound, OfCap, OfLink, OfTcb, SlotsLack, ThreadLack}
pub use Rattle.cert_check.specs.Valid.{Passes, Valid}
pub use Rattle.cert_check.specs.Violations.{BreaksBind, BreaksBoot, BreaksCall, BreaksControl, BreaksPolicy, Missing}
pub use Rattle.cert_check.specs.declared.meetings.Meeting.{Meeting}
pub use Rattle.cert_check.specs.declared.violation.Violation.{Violation}
pub use Rattle.std.proofs.Common.{Bool, IfSome, List, None, Option, Some, [], ap, arith, false, get_or, inl, inr, length, nat_le, nat_lt, not, refl, rules, set, slice_get, subst, sym, true, ℕ, ◌&&◌, ◌++◌, ◌+◌, ◌-◌, ◌/◌, ◌<◌, ◌==◌, ◌||◌, ◌∙◌, ◌∷◌}
pub use Rattle.std.proofs.Common.{◌≡◌, ◌≢◌, ◌≤◌, ◌⊎◌}
pub use Rattle.std.proofs.lemmas.Bool.{cases_eq, cases_lt, eqb-false, eqb-true, leb-false, leb-true, ltb-false, ltb-true}
pub use Rattle.std.proofs.lemmas.List.Elements.{All-contains, All-filter, All-nil, All-push, Contains-append_left, Contains-get_or, Contains-push, Contains-push_cases}
pub use Rattle.std.proofs.lemmas.List.Sorted.{Contains-permutation, IsNonDecreasingBy-from_sort, IsPartitionPoint-from_clause, IsPartitionedBy-leb, IsPartitionedBy-ltb, IsPermutation-sym}
pub use Rattle.std.proofs.lemmas.Option.{get_or_from_slice_get, slice_get-get_or, slice_get_read, slice_get_within}
pub use Rattle.std.specs.List.{All, Contains}
pub use Rattle.std.specs.Prelude.{map}
