-- The names of crates below that the definitions here cite, passed on from one place. Declares nothing.
pub use Rattle.adl_ast.specs.declared.source.Source.{Source}
pub use Rattle.adl_meaning.specs.declared.connector.Connector.{Connector}
pub use Rattle.adl_meaning.specs.declared.connector.Connector.TheVariants.{Interrupt, Notification, Rpc}
pub use Rattle.adl_meaning.specs.declared.flat.Domain.{Domain}
pub use Rattle.adl_meaning.specs.declared.flat.Flat.{Flat}
pub use Rattle.adl_meaning.specs.declared.flat.FlatConnection.{FlatConnection}
pub use Rattle.adl_meaning.specs.declared.settled.Settled.{Settled}
pub use Rattle.arch_policy.specs.declared.owner.Owner.{Owner}
pub use Rattle.arch_policy.specs.declared.owner.Owner.TheVariants.{OfConnection, OfDomain}
pub use Rattle.cam_base.specs.Gather.{IsIn, before, gather}
pub use Rattle.cap_model.specs.Lookup.{name_at, object_at}
pub use Rattle.cap_model.specs.declared.level.Arch.{Arch}
pub use Rattle.cap_model.specs.declared.level.Level.{Level}
pub use Rattle.cap_model.specs.declared.level.Level.TheVariants.{Directory, Global, Table, Upper}
pub use Rattle.cap_model.specs.declared.object.Object.{Object}
pub use Rattle.cap_model.specs.declared.rights.Rights.{Rights}
pub use Rattle.cap_model.specs.declared.spec.Spec.{Spec}
pub use Rattle.cspace_layout.specs.Lookups.{end_of, setting_of}
pub use Rattle.cspace_layout.specs.Members.{items_of_file, leaf_members}
pub use Rattle.cspace_layout.specs.declared.plan.SlotUse.{SlotUse}
pub use Rattle.cspace_layout.specs.declared.plan.SlotUse.TheVariants.{Handler, OfEnd, OwnLock}
pub use Rattle.page_tables.specs.Levels.{layers, level_of, sizes, tables_of}
pub use Rattle.page_tables.specs.Shapes.{shapes}
pub use Rattle.source_images.specs.declared.images.Images.{Images}
pub use Rattle.std.specs.List.{count_by, find, flat_map, position}
pub use Rattle.std.specs.Option.{option_and_then, option_map_or}
pub use Rattle.vspace_layout.specs.declared.spaces.FrameInfo.{FrameInfo}
pub use Rattle.vspace_layout.specs.declared.spaces.Page.{Page}
pub use Rattle.vspace_layout.specs.declared.spaces.ThreadPlace.{ThreadPlace}
pub use Rattle.vspace_layout.specs.declared.spaces.Window.{Window}
