-- The names that most proofs cite, passed on from one place. Declares nothing.
pub use Rattle.arch_policy.specs.Where.{where_true}
pub use Rattle.authorities.specs.declared.authority.Authority.TheVariants.{Receive}
pub use Rattle.cam_base.proofs.Gathered.{gather_turn}
pub use Rattle.cam_base.specs.Gather.{gather}
pub use Rattle.view_tool.specs.Devices.{connection_rows, end_rows, settings_in}
pub use Rattle.view_tool.specs.Matrix.{authority_text, cell_text, is_target, label_row, mark_at, mark_in, marked, matrix_head, matrix_of}
pub use Rattle.view_tool.specs.Pages.{devices_part, domain_part, domain_parts, file_row, files_part, matrix_part, matrix_words, page_head, page_start, page_text, style, summary_part, theorem, told}
pub use Rattle.view_tool.specs.Shapes.{device_label, kept_as, partner, shape_of}
pub use Rattle.std.proofs.Common.{Err, List, Ok, Result, [], ap, append_assoc, arith, codes, map, refl, slice_get, sym, take, ℕ, ◌++◌, ◌==◌, ◌∙◌, ◌∷◌, ◌≡◌}
pub use Rattle.std.proofs.lemmas.List.{get_or_default}
pub use Rattle.std.proofs.lemmas.Option.{get_or_from_slice_get, slice_get-get_or}
pub use Rattle.std.specs.List.{flat_map}
pub use Rattle.system_spec.specs.MapText.{named}
pub use Rattle.view_text.specs.Html.{escaped, tagged}
