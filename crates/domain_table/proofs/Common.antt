-- The names that most proofs cite, passed on from one place. Declares nothing.
pub use Rattle.domain_table.specs.Pages.{address, page_rows, rows_of_space}
pub use Rattle.domain_table.specs.Rows.{Row, cell, row_line}
pub use Rattle.domain_table.specs.Tables.{root_name, slot_line, tables_in, tables_text, thread_line, window_line}
pub use Rattle.domain_table.specs.declared.table.DomainTables.{DomainTables}
pub use Rattle.std.proofs.Common.{List, ap, length, map, take, ℕ, ◌++◌, ◌∙◌, ◌≡◌}
pub use Rattle.std.specs.List.{flat_map}
pub use Rattle.system_spec.specs.MapText.{Named, named}
