-- The names of crates below that the definitions here cite, passed on from one place. Declares nothing.
pub use Rattle.authorities.specs.declared.authority.Authority.{Authority}
pub use Rattle.authorities.specs.declared.authority.Authority.TheVariants.{AsyncSend, Call, Control, Grant, Handle, Read, Receive, Reply, SyncSend, Write}
pub use Rattle.cap_model.specs.Auth.{buffer_of, table_of}
pub use Rattle.cap_model.specs.Kinds.{is_at, kind_at}
pub use Rattle.cap_model.specs.Lookup.{object_at}
pub use Rattle.cap_model.specs.ObjectLabels.{label_of}
pub use Rattle.cap_model.specs.State.{State, boot, content_in, irq_at, node_at, thread_at}
pub use Rattle.cap_model.specs.Tables.{Has}
pub use Rattle.cap_model.specs.declared.cap.Cap.{Cap}
pub use Rattle.cap_model.specs.declared.edge.Edge.{Edge}
pub use Rattle.cap_model.specs.declared.rights.Rights.{Rights}
pub use Rattle.cap_model.specs.declared.spec.Spec.{Spec}
pub use Rattle.cap_model.specs.declared.state.Content.TheVariants.{Capability, SavedReply}
pub use Rattle.cap_model.specs.declared.state.Mapped.{Mapped}
pub use Rattle.std.specs.List.{Contains, filter}
