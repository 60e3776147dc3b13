-- The names that most proofs cite, passed on from one place. Declares nothing.
pub use Rattle.authorities.specs.declared.authority.Authority.TheVariants.{Control, Read, Write}
pub use Rattle.cap_machine.specs.StepTable.{Acts, Own, Peer, StepTo}
pub use Rattle.cap_model.specs.State.{State, boot, content_in, irq_at, node_at, thread_at}
pub use Rattle.cap_model.specs.declared.cap.Cap.{Cap}
pub use Rattle.cap_model.specs.declared.spec.Spec.{Spec}
pub use Rattle.cap_model.specs.declared.state.Content.{Content}
pub use Rattle.cap_model.specs.declared.state.Content.TheVariants.{Capability, SavedReply}
pub use Rattle.flow_model.specs.Access.{Access, ByAdded, ByBuffer, BySlot, LeadsDown}
pub use Rattle.flow_model.specs.Act.{Act, Attempt, allowed, await, device, fire, load, refused, send, signal, step, store, tell, tell_saved, thread_of}
pub use Rattle.flow_model.specs.ActRuns.{ActRun, IsReached}
pub use Rattle.flow_model.specs.ActTable.{ActTo, AttemptTo}
pub use Rattle.flow_model.specs.World.{World, answer, content, denied, done, message, more, put, signals}
pub use Rattle.std.proofs.Common.{Bool, List, None, Option, Some, ℕ, [], ap, arith, false, inl, inr, refl, rules, subst, sym, true, ◌++◌, ◌==◌, ◌∙◌, ◌∷◌, ◌≡◌}
