-- The names of crates below that the definitions here cite, passed on from one place. Declares nothing.
pub use Rattle.authorities.specs.declared.authority.Authority.{Authority}
pub use Rattle.authorities.specs.declared.authority.Authority.TheVariants.{AsyncSend, Reply}
pub use Rattle.cap_machine.specs.Runs.{Reaches, Run}
pub use Rattle.cap_machine.specs.Sources.{OfCap}
pub use Rattle.cap_machine.specs.declared.step.Step.{Step}
pub use Rattle.cap_model.specs.Auth.{Auth, Structural}
pub use Rattle.cap_model.specs.Edges.{edge}
pub use Rattle.cap_model.specs.Kept.{IsKept}
pub use Rattle.cap_model.specs.Kinds.{is_at, is_space_root}
pub use Rattle.cap_model.specs.ObjectLabels.{label_of}
pub use Rattle.cap_model.specs.State.{Node, State, boot, content_at, content_in, irq_at, no_node, node_at, thread_at}
pub use Rattle.cap_model.specs.Tables.{Has, has}
pub use Rattle.cap_model.specs.declared.cap.Cap.{Cap}
pub use Rattle.cap_model.specs.declared.edge.Edge.{Edge}
pub use Rattle.cap_model.specs.declared.object.Object.{Object}
pub use Rattle.cap_model.specs.declared.rights.Rights.{Rights}
pub use Rattle.cap_model.specs.declared.spec.Entry.{Entry}
pub use Rattle.cap_model.specs.declared.spec.Spec.{Spec}
pub use Rattle.cap_model.specs.declared.state.Content.{Content}
pub use Rattle.cap_model.specs.declared.state.Content.TheVariants.{Capability, SavedReply}
pub use Rattle.std.specs.List.{Contains, sum_by}
