-- The names that most proofs cite, passed on from one place. Declares nothing.
pub use Rattle.adl_meaning.specs.declared.flat.FlatConnection.{FlatConnection}
pub use Rattle.adl_meaning.specs.declared.flat.FlatEnd.{FlatEnd}
pub use Rattle.arch_policy.proofs.Listed.{from_end, from_end_at, from_signal, in_end, in_signal, is_same_connector, is_same_role, lock_of_member, same_place}
pub use Rattle.arch_policy.specs.Ends.{EndAt, IsEnd, LockAt}
pub use Rattle.arch_policy.specs.Reasons.{BindReason, CallReason, DirectReason, Handles, LockReason, Reason, by_bind, by_call, by_direct, by_lock}
pub use Rattle.arch_policy.specs.Tables.{Tables, connection_label, domain_label, leaf_label, tables_of, told}
pub use Rattle.authorities.specs.declared.authority.Authority.{Authority}
pub use Rattle.cam_base.proofs.NumberedLists.{from_any, read_place}
pub use Rattle.cap_model.specs.declared.edge.Edge.{Edge}
pub use Rattle.cspace_layout.specs.Members.{is_lock, members_at}
pub use Rattle.explain.specs.Explained.{AtMost, ComesFirst, Explains, IsAsked, IsFirstOf, IsFirstReason, numbers, stage, tell, told_of}
pub use Rattle.explain.specs.Sought.{IsFirstAt, IsFirstEnd, IsFirstLock, IsFirstOfLeaf, IsLeastEnd, IsLeastLock, IsSought, fits, has_side, is_async, is_reply, is_side, opens}
pub use Rattle.explain.specs.declared.search.Found.{Found}
pub use Rattle.explain.specs.declared.search.Sought.TheVariants.{Caller, Given, Handler, LockHandler, Server, Signaller}
pub use Rattle.std.proofs.Common.{Bool, Err, List, None, Option, Some, [], ap, arith, false, inl, inr, length, map, refl, subst, sym, take, true, true≢false, ℕ, ◌&&◌, ◌++◌, ◌+◌, ◌<◌, ◌==◌, ◌^◌, ◌∙◌, ◌≡◌, ◌≤◌}
pub use Rattle.std.proofs.lemmas.Bool.{and_from, and_parts, cases_lt, eq-eqb, eqb-true}
pub use Rattle.std.specs.List.{flat_map, slice_get}
