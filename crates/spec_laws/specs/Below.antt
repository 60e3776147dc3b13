-- The names of crates below that the definitions here cite, passed on from one place. Declares nothing.
pub use Rattle.adl_ast.specs.declared.composition.Role.TheVariants.{From, To}
pub use Rattle.adl_meaning.specs.declared.connector.Connector.{Connector}
pub use Rattle.adl_meaning.specs.declared.connector.Connector.TheVariants.{Direct, Interrupt, Mmio, Notification, Rpc, SharedMemory}
pub use Rattle.adl_meaning.specs.declared.flat.Domain.{Domain}
pub use Rattle.adl_meaning.specs.declared.flat.Flat.{Flat}
pub use Rattle.adl_meaning.specs.declared.flat.FlatConnection.{FlatConnection}
pub use Rattle.adl_meaning.specs.declared.flat.FlatEnd.{FlatEnd}
pub use Rattle.adl_meaning.specs.declared.flat.Leaf.{Leaf}
pub use Rattle.adl_meaning.specs.declared.settled.EndSetting.{EndSetting}
pub use Rattle.adl_meaning.specs.declared.settled.LeafSetting.{LeafSetting}
pub use Rattle.cam_base.specs.Gather.{IsIn, before, gather}
pub use Rattle.cam_base.specs.Names.{is_name}
pub use Rattle.cap_model.specs.Lookup.{name_at, object_at}
pub use Rattle.cap_model.specs.declared.cap.Cap.{Cap}
pub use Rattle.cap_model.specs.declared.level.Level.{Level}
pub use Rattle.cap_model.specs.declared.object.Fill.{Fill}
pub use Rattle.cap_model.specs.declared.object.Object.{Object}
pub use Rattle.cap_model.specs.declared.object.Object.TheVariants.{CNode, Frame, Irq, Pages, Thread}
pub use Rattle.cap_model.specs.declared.object.Tcb.{Tcb}
pub use Rattle.cap_model.specs.declared.object_labels.Labels.{Labels}
pub use Rattle.cap_model.specs.declared.spec.Spec.{Spec}
pub use Rattle.conn_rules.specs.Row.{NONE, RW, rows_of}
pub use Rattle.cspace_layout.specs.Lookups.{setting_of}
pub use Rattle.cspace_layout.specs.Members.{is_lock, leaf_members}
pub use Rattle.cspace_layout.specs.Uses.{domain_uses, slots_of}
pub use Rattle.cspace_layout.specs.declared.end_at.EndAt.{EndAt}
pub use Rattle.page_tables.specs.Shapes.{shapes, span}
pub use Rattle.page_tables.specs.Walks.{Arrives, Walk, root_span}
pub use Rattle.page_tables.specs.declared.shape.Shape.{Shape}
pub use Rattle.sect_table.specs.declared.image.Image.{Image}
pub use Rattle.sect_table.specs.declared.image.Section.{Section}
pub use Rattle.source_images.specs.Images.{image_number}
pub use Rattle.system_spec.specs.Names.{level_series, name_of, root_series}
pub use Rattle.system_spec.specs.Objects.{settled_badge}
pub use Rattle.system_spec.specs.Parts.{all_tables, parts, place}
pub use Rattle.system_spec.specs.Tables.{Tables, arch, component_name, device_place, irq_number, irq_owner, leaf_entry, leaf_name, pages_at, priority, threads_at, uses_at}
pub use Rattle.system_spec.specs.declared.map_line.MapLine.{MapLine}
pub use Rattle.system_spec.specs.declared.map_line.MapLine.TheVariants.{DomainLine, OwnLine, SlotLine, ThreadLine, WindowLine}
pub use Rattle.system_spec.specs.declared.series.Series.{Series}
pub use Rattle.vspace_layout.specs.Given.{Given, base, given, leaves_of}
pub use Rattle.vspace_layout.specs.Laid.{spaces_of}
pub use Rattle.vspace_layout.specs.Memory.{memory_paddr, memory_pages, registers, same_port}
pub use Rattle.vspace_layout.specs.PageLimits.{page_counts, table_counts}
pub use Rattle.vspace_layout.specs.Regions.{is_window, region_start, regions, stack_pages, threads_of, windows_of}
pub use Rattle.vspace_layout.specs.declared.region.Content.TheVariants.{Buffer, Stack, Window}
pub use Rattle.vspace_layout.specs.declared.region.Region.{Region}
pub use Rattle.vspace_layout.specs.declared.spaces.FrameInfo.{FrameInfo}
pub use Rattle.vspace_layout.specs.declared.spaces.ThreadPlace.{ThreadPlace}
pub use Rattle.vspace_layout.specs.declared.thread.ThreadOf.{ThreadOf}
