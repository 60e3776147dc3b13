-- The names of crates below that the definitions here cite, passed on from one place. Declares nothing.
pub use Rattle.authorities.specs.declared.authority.Authority.{Authority}
pub use Rattle.authorities.specs.declared.authority.Authority.TheVariants.{AsyncSend, Call, Control, Grant, GrantBack, Handle, Receive, Reply}
pub use Rattle.cap_model.specs.Auth.{Held, Structural}
pub use Rattle.cap_model.specs.Edges.{AtMost, Before, edge}
pub use Rattle.cap_model.specs.State.{boot}
pub use Rattle.cap_model.specs.Tables.{Finds, Has, has}
pub use Rattle.cap_model.specs.declared.edge.Edge.{Edge}
pub use Rattle.cap_model.specs.declared.spec.Spec.{Spec}
