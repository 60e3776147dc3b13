-- The names that most proofs cite, passed on from one place. Declares nothing.
pub use Rattle.cam_base.proofs.Hexadecimals.{is_hexadecimal-hex_digits, number_value-hex_text}
pub use Rattle.cam_base.specs.Fields.{fields, is_padded, spaced_fields}
pub use Rattle.cam_base.specs.Lines.{Line, is_silent, lines, placed, telling}
pub use Rattle.cam_base.specs.Numbers.{is_hex_digit, is_hexadecimal, number_value}
pub use Rattle.cam_base.specs.Parts.{parts}
pub use Rattle.cam_base.specs.declared.error.Refused.{Refused}
pub use Rattle.cam_io.proofs.Saying.{said_all, says_line, says_lines, says_nothing, says_then}
pub use Rattle.cam_io.specs.Saying.{Says}
pub use Rattle.sect_table.specs.Classes.{fields_end, header_length, length_at}
pub use Rattle.sect_table.specs.Elf.{Elf, image_of}
pub use Rattle.sect_table.specs.ElfHeaders.{file_header, headers, headers_from, program_header}
pub use Rattle.sect_table.specs.ElfSections.{file_end, is_used, is_writable, loaded, memory_end, page_down, page_up, sections_of_all, sections_of_used, zeros, zeros_behind}
pub use Rattle.sect_table.specs.Faults.{class_in, fault, fault_behind, fault_of_used, fault_within, first_fault, header_fault, headers_fault, is_aligned, is_of_another_length, is_past, is_sized, is_whole, limit_fault, short, table_fault}
pub use Rattle.sect_table.specs.Headers.{header, header_of}
pub use Rattle.sect_table.specs.HeadersLeft.{headers_left}
pub use Rattle.sect_table.specs.Sections.{ends_within, is_placed, is_sound, numbers_of, place_of, section_of, spelled, writes_of}
pub use Rattle.sect_table.specs.Tables.{IsRead, fault_in, first_bad, image_in, section_at, sections_of}
pub use Rattle.sect_table.specs.TablesBack.{AreBytes, HasRow, HasTable}
pub use Rattle.sect_table.specs.Texts.{entry_line, section_line, table_text}
pub use Rattle.sect_table.specs.declared.class.Class.{Class}
pub use Rattle.sect_table.specs.declared.fault.ElfFault.{ElfFault}
pub use Rattle.sect_table.specs.declared.image.Image.{Image}
pub use Rattle.sect_table.specs.declared.image.Section.{Section}
pub use Rattle.sect_table.specs.declared.program_header.ProgramHeader.{ProgramHeader}
pub use Rattle.std.proofs.Common.{Bool, Err, List, None, Ok, Option, Result, Some, ℕ, [], ap, append_assoc, arith, cond, drop, false, filter, inl, inr, leb, length, length-drop, lit<, nat_lt, not, refl, rules, subst, suc, sym, take, true, zero, ◌&&◌, ◌*◌}
pub use Rattle.std.proofs.Common.{◌++◌, ◌+◌, ◌-◌, ◌<◌, ◌==◌, ◌^◌, ◌∙◌, ◌∷◌, ◌≡◌, ◌≢◌, ◌≤◌, ◌⊎◌}
pub use Rattle.std.proofs.Math.Nat.{pow-le-pow_right, pow-suc}
pub use Rattle.std.proofs.lemmas.Bool.{and_from, and_parts, eqb-true, ltb-true, or_from}
pub use Rattle.std.proofs.lemmas.Bool.Decides.{nat_tests}
pub use Rattle.std.specs.List.{AllByRecursion, flat_map, list_all, onto_first, slice_index}
pub use Rattle.std.specs.Option.{is_some, option_or}
pub use Rattle.std.specs.Prelude.{codes, decimal, ◌%◌}
