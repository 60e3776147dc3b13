-- The names that most proofs cite, passed on from one place. Declares nothing.
pub use Rattle.adl_ast.specs.declared.composition.Role.{Role}
pub use Rattle.adl_ast.specs.declared.composition.Role.TheVariants.{From, To}
pub use Rattle.adl_meaning.specs.declared.connector.Connector.{Connector}
pub use Rattle.adl_meaning.specs.declared.connector.Connector.TheVariants.{Direct, Interrupt, Mmio, Notification, Rpc, SharedMemory}
pub use Rattle.adl_meaning.specs.declared.flat.Domain.{Domain}
pub use Rattle.adl_meaning.specs.declared.flat.FlatConnection.{FlatConnection}
pub use Rattle.adl_meaning.specs.declared.flat.FlatEnd.{FlatEnd}
pub use Rattle.adl_meaning.specs.declared.flat.Leaf.{Leaf}
pub use Rattle.arch_policy.specs.Bound.{IsBound, IsBoundAt, IsBoundBy, bound_to}
pub use Rattle.arch_policy.specs.Gives.{gives, leaves, opposite, same_object}
pub use Rattle.arch_policy.specs.Labels.{comes_before, connection_numbers, device_numbers, domain_numbers, firsts, in_order, label_numbers, label_texts, put_before, put_in, rank}
pub use Rattle.arch_policy.specs.LockEdges.{IsOfLeaf, IsWithLock}
pub use Rattle.arch_policy.specs.Owners.{connection_texts, device_texts, domain_texts, has_label, is_device, texts}
pub use Rattle.arch_policy.specs.Policies.{IsCertificateOf, IsLockEdge, IsPolicyOf, edge_count}
pub use Rattle.arch_policy.specs.Tables.{Tables, connection_label, domain_label, leaf_label, told}
pub use Rattle.arch_policy.specs.Triples.{bound_edges, crossed, crossed_at, crossed_edges, direct_edges, end_edges, given_edges, handle_edges, labels_in_role, leads_out, lock_edge, lock_edges, reasoned_edges, reply_edges, row_edges, row_gives}
pub use Rattle.arch_policy.specs.Triples.{signal_edges, signals_at, targets, triples}
pub use Rattle.arch_policy.specs.Where.{where_true}
pub use Rattle.arch_policy.specs.declared.numbers.LabelNumbers.{LabelNumbers}
pub use Rattle.authorities.specs.Authorities.{authorities}
pub use Rattle.authorities.specs.AuthoritySets.{IsSetOf, set_has}
pub use Rattle.authorities.specs.declared.authority.Authority.{Authority}
pub use Rattle.authorities.specs.declared.authority.Authority.TheVariants.{AsyncSend, Call, Control, Grant, GrantBack, Handle, Read, Receive, Reply, Reset, SyncSend, Write}
pub use Rattle.cam_base.proofs.Gathered.{flat_map-gather, from_gather, gather_ones, gather_same, gather_turn, in_append, in_gather, in_left, in_place, in_right, length_append, place_of}
pub use Rattle.cam_base.proofs.NumberedLists.{below, from_any, length-gather, read_place}
pub use Rattle.cam_base.specs.Gather.{IsIn, gather}
pub use Rattle.cam_base.specs.Paths.{joined}
pub use Rattle.cap_machine.proofs.Gathering.{OfFirst, all_first, first_more}
pub use Rattle.cap_model.proofs.EdgeGrowth.{adds_none, adds_same, adds_then}
pub use Rattle.cap_model.proofs.EdgeOrder.{same_edge_self, same_edge_true}
pub use Rattle.cap_model.specs.Adds.{Adds, IsOfSet}
pub use Rattle.cap_model.specs.Edges.{edge, same_edge}
pub use Rattle.cap_model.specs.EdgesLeft.{edges_left}
pub use Rattle.cap_model.specs.Tables.{IsFirstFrom, IsSorted, has}
pub use Rattle.cap_model.specs.declared.edge.Edge.{Edge}
pub use Rattle.conn_rules.specs.Row.{RW, rows_of, same_connector, same_role}
pub use Rattle.conn_rules.specs.declared.rule.ObjectKind.{ObjectKind}
pub use Rattle.conn_rules.specs.declared.rule.ObjectKind.TheVariants.{NoObject, OfDevice, OfEndpoint, OfFrames, OfIrq, OfNotification}
pub use Rattle.cspace_layout.specs.Members.{is_lock, members_at}
pub use Rattle.std.proofs.Common.{Bool, Equal, Greater, IfSome, Less, List, None, Option, Ordering, Some, [], ap, append-nil, arith, cond, drop, false, get_or, inl, inr, length, map, map-id, not, refl, rules, subst, suc, sym, take, true, true≢false}
pub use Rattle.std.proofs.Common.{zero, ℕ, ⊎_elim, ◌&&◌, ◌++◌, ◌+◌, ◌-◌, ◌<◌, ◌==◌, ◌^◌, ◌||◌, ◌↔◌, ◌∙◌, ◌∷◌, ◌≡◌, ◌≢◌, ◌≤◌, ◌⊎◌}
pub use Rattle.std.proofs.lemmas.Bool.{and_from, and_parts, cases_lt, eq-eqb, eqb-true}
pub use Rattle.std.proofs.lemmas.Iterator.Consumers.{YieldsList-end, YieldsList-from_first, YieldsList-turn}
pub use Rattle.std.proofs.lemmas.List.{get_or-map, get_or_default, length-map, length_push, take_all}
pub use Rattle.std.proofs.lemmas.List.Sorted.{Contains-permutation, IsPartitionPoint-from_clause, IsPermutation-map, IsPermutation-sym}
pub use Rattle.std.proofs.lemmas.Option.{get_or_from_slice_get, same_Some, slice_get_read, slice_get_within}
pub use Rattle.std.specs.Cmp.Lexicographic.{pointwise, slice_cmp}
pub use Rattle.std.specs.List.{AllByRecursion, Contains, count_by, dedup, filter, flat_map, list_all, list_any, slice_get}
