-- The names of crates below that the definitions here cite, passed on from one place. Declares nothing.
pub use Rattle.adl_ast.specs.declared.source.Source.{Source}
pub use Rattle.adl_meaning.specs.Flat.{flat_of}
pub use Rattle.adl_meaning.specs.declared.flat.Flat.{Flat}
pub use Rattle.adl_settings.specs.Settled.{settled_of}
pub use Rattle.arch_policy.specs.Policies.{IsCertificateOf, IsPolicyOf, first_edge_fault}
pub use Rattle.cam_base.specs.Gather.{IsIn, gather}
pub use Rattle.cam_base.specs.Unread.{SourceError}
pub use Rattle.cam_base.specs.declared.place.Fault.{Fault}
pub use Rattle.cam_io.specs.Causes.{Rose}
pub use Rattle.cam_io.specs.Contents.{Contents}
pub use Rattle.cap_model.specs.Tables.{Has, IsSorted}
pub use Rattle.cap_model.specs.declared.edge.Edge.{Edge}
pub use Rattle.cap_model.specs.declared.object_labels.Labels.{Labels}
pub use Rattle.cap_model.specs.declared.policy.Policy.{Policy}
pub use Rattle.cap_model.specs.declared.spec.Entry.{Entry}
pub use Rattle.cap_model.specs.declared.spec.Spec.{Spec}
pub use Rattle.cspace_layout.specs.SlotFaults.{first_slot_fault}
pub use Rattle.front_end.specs.First.{first_front_fault, name_of_file, source_tables}
pub use Rattle.source_images.specs.Found.{AlikeInTables, Found, folder_of, found_in, table_name, table_names}
pub use Rattle.source_images.specs.ImagesRead.{AreImagesOf, images_of}
pub use Rattle.source_images.specs.SpaceFaults.{first_space_fault}
pub use Rattle.source_images.specs.declared.images.Images.{Images}
pub use Rattle.std.specs.Option.{option_map_or, option_or}
pub use Rattle.system_spec.specs.Made.{labels_of, spec_of}
pub use Rattle.system_spec.specs.MapLines.{map_lines}
pub use Rattle.system_spec.specs.Tables.{Tables, component_name}
pub use Rattle.system_spec.specs.TablesFrom.{tables_from}
pub use Rattle.vspace_layout.specs.Given.{Given, given}
pub use Rattle.vspace_layout.specs.PageLimits.{first_page_limit}
