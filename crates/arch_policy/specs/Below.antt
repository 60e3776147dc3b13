-- The names of crates below that the definitions here cite, passed on from one place. Declares nothing.
pub use Rattle.adl_ast.specs.declared.composition.Role.{Role}
pub use Rattle.adl_ast.specs.declared.composition.Role.TheVariants.{From, To}
pub use Rattle.adl_ast.specs.declared.source.Source.{Source}
pub use Rattle.adl_meaning.specs.declared.connector.Connector.{Connector}
pub use Rattle.adl_meaning.specs.declared.connector.Connector.TheVariants.{Direct, Interrupt, Mmio, Notification, Rpc, SharedMemory}
pub use Rattle.adl_meaning.specs.declared.flat.Domain.{Domain}
pub use Rattle.adl_meaning.specs.declared.flat.Flat.{Flat}
pub use Rattle.adl_meaning.specs.declared.flat.FlatConnection.{FlatConnection}
pub use Rattle.adl_meaning.specs.declared.flat.FlatEnd.{FlatEnd}
pub use Rattle.adl_meaning.specs.declared.flat.Leaf.{Leaf}
pub use Rattle.authorities.specs.AuthoritySets.{set_has}
pub use Rattle.authorities.specs.declared.authority.Authority.{Authority}
pub use Rattle.authorities.specs.declared.authority.Authority.TheVariants.{AsyncSend, Handle, Read, Reply, Write}
pub use Rattle.cam_base.specs.Gather.{IsIn, gather}
pub use Rattle.cam_base.specs.Paths.{joined}
pub use Rattle.cap_model.specs.Confers.{kind_confers}
pub use Rattle.cap_model.specs.Edges.{edge, same_edge}
pub use Rattle.cap_model.specs.declared.edge.Edge.{Edge}
pub use Rattle.conn_rules.specs.Row.{RW, rows_of, same_connector, same_role}
pub use Rattle.conn_rules.specs.declared.rule.ObjectKind.{ObjectKind}
pub use Rattle.conn_rules.specs.declared.rule.ObjectKind.TheVariants.{NoObject, OfDevice, OfEndpoint, OfFrames, OfIrq, OfNotification}
pub use Rattle.cspace_layout.specs.Lookups.{setting_of}
pub use Rattle.cspace_layout.specs.Members.{is_lock, members_at}
pub use Rattle.std.specs.List.{count_by, filter, list_any}
pub use Rattle.std.specs.Option.{option_map_or}
