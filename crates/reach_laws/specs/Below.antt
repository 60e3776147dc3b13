-- The names of crates below that the definitions here cite, passed on from one place. Declares nothing.
pub use Rattle.arch_policy.specs.Ends.{EndAt}
pub use Rattle.arch_policy.specs.Reasons.{DirectReason, LeadsTo}
pub use Rattle.arch_policy.specs.Tables.{Tables, leaf_label}
pub use Rattle.authorities.specs.declared.authority.Authority.{Authority}
pub use Rattle.authorities.specs.declared.authority.Authority.TheVariants.{Read, Write}
pub use Rattle.cap_model.specs.Auth.{Auth, Held, OfBuffer, OfIrq, OfRoot, OfSpace, table_of}
pub use Rattle.cap_model.specs.Edges.{edge}
pub use Rattle.cap_model.specs.Kinds.{is_at, kind_at}
pub use Rattle.cap_model.specs.Lookup.{object_at}
pub use Rattle.cap_model.specs.ObjectLabels.{label_of}
pub use Rattle.cap_model.specs.State.{boot, irq_at, node_at}
pub use Rattle.cap_model.specs.declared.cap.Cap.{Cap}
pub use Rattle.cap_model.specs.declared.kind.Kind.TheVariants.{Endpoint, Frame, Notification}
pub use Rattle.cap_model.specs.declared.rights.Rights.{Rights}
pub use Rattle.cap_model.specs.declared.spec.Spec.{Spec}
pub use Rattle.std.specs.List.{Contains}
