-- The names of crates below that the definitions here cite, passed on from one place. Declares nothing.
pub use Rattle.adl_ast.specs.declared.composition.Role.{Role}
pub use Rattle.adl_ast.specs.declared.composition.Role.TheVariants.{From, To}
pub use Rattle.adl_ast.specs.declared.source.Source.{Source}
pub use Rattle.adl_meaning.specs.declared.connector.Connector.{Connector}
pub use Rattle.adl_meaning.specs.declared.connector.Connector.TheVariants.{Mmio, Rpc, SharedMemory}
pub use Rattle.adl_meaning.specs.declared.flat.Domain.{Domain}
pub use Rattle.adl_meaning.specs.declared.flat.Flat.{Flat}
pub use Rattle.adl_meaning.specs.declared.flat.FlatConnection.{FlatConnection}
pub use Rattle.adl_meaning.specs.declared.flat.FlatEnd.{FlatEnd}
pub use Rattle.adl_meaning.specs.declared.settled.EndSetting.{EndSetting}
pub use Rattle.adl_meaning.specs.declared.settled.Settled.{Settled}
pub use Rattle.cam_base.specs.Gather.{IsIn, before, gather}
pub use Rattle.cap_model.specs.declared.level.Arch.{Arch}
pub use Rattle.cap_model.specs.declared.object.Fill.{Fill}
pub use Rattle.cspace_layout.specs.LeafEnds.{ends_at}
pub use Rattle.cspace_layout.specs.Lookups.{end_of, setting_of}
pub use Rattle.cspace_layout.specs.System.{System, all_ends, wired}
pub use Rattle.cspace_layout.specs.declared.end_at.EndAt.{EndAt}
pub use Rattle.source_images.specs.ByAddress.{section_page_count, section_pages}
pub use Rattle.source_images.specs.Images.{arch_of, sections_end}
pub use Rattle.source_images.specs.declared.images.Images.{Images}
pub use Rattle.std.specs.List.{All, AllPairs, count_by, flat_map, position, range_with_len}
pub use Rattle.std.specs.Option.{option_and_then, option_map_or}
