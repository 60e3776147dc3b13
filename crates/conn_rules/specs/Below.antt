-- The names of crates below that the definitions here cite, passed on from one place. Declares nothing.
pub use Rattle.adl_meaning.specs.Prelude.{From, Role, To, filter, list_any}
pub use Rattle.adl_meaning.specs.declared.connector.Connector.{Connector}
pub use Rattle.adl_meaning.specs.declared.connector.Connector.TheVariants.{Direct, Interrupt, Mmio, Notification, Rpc, SharedMemory}
pub use Rattle.authorities.specs.Authorities.{number_of}
pub use Rattle.authorities.specs.declared.authority.Authority.{Authority}
pub use Rattle.authorities.specs.declared.authority.Authority.TheVariants.{AsyncSend, Call, Handle, Read, Receive, Reset, SyncSend, Write}
pub use Rattle.cap_model.specs.declared.rights.Rights.{Rights}
