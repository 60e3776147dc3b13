-- The names of crates below that the definitions here cite, passed on from one place. Declares nothing.
pub use Rattle.adl_ast.specs.declared.source.Source.{Source}
pub use Rattle.adl_meaning.specs.declared.flat.Flat.{Flat}
pub use Rattle.adl_meaning.specs.declared.settled.Settled.{Settled}
pub use Rattle.arch_compile.specs.declared.building.Build.{Build}
pub use Rattle.arch_policy.specs.Owners.{is_device}
pub use Rattle.arch_policy.specs.Where.{where_true}
pub use Rattle.cam_base.specs.Gather.{gather}
pub use Rattle.cam_base.specs.Paths.{joined}
pub use Rattle.cam_base.specs.Texts.{together}
pub use Rattle.cam_base.specs.declared.place.Fault.{Fault}
pub use Rattle.cam_base.specs.declared.text_fault.TextFault.{TextFault}
pub use Rattle.cap_model.specs.declared.edge.Edge.{Edge}
pub use Rattle.cap_model.specs.declared.policy.Policy.{Policy}
pub use Rattle.domain_table.specs.Rows.{Row}
pub use Rattle.domain_table.specs.Tables.{domain_called, domain_labels, heading, leaf_text, tables_in}
pub use Rattle.front_end.specs.declared.phases.FrontEnd.{FrontEnd}
pub use Rattle.std.specs.List.{flat_map, list_any}
pub use Rattle.std.specs.Option.{option_map_or}
pub use Rattle.std.specs.Str.{IsUtf8, bytes_eq}
pub use Rattle.system_spec.specs.MapText.{Named, member_name, named}
pub use Rattle.view_text.specs.Graphs.{graph_of, note_at}
pub use Rattle.view_text.specs.Html.{escaped, table_of, tagged}
pub use Rattle.view_text.specs.Pictures.{picture_of, shape_at}
