-- The names that most proofs cite, passed on from one place. Declares nothing.
pub use Rattle.adl_ast.specs.declared.source.Source.{Source}
pub use Rattle.adl_meaning.proofs.Least.{earlier_assoc, least-empty, noted-append, noted-none}
pub use Rattle.adl_meaning.specs.Faults.{earlier, least, noted, precedes, where_true}
pub use Rattle.adl_meaning.specs.Lists.{firsts, firsts_after}
pub use Rattle.adl_meaning.specs.declared.flat.Flat.{Flat}
pub use Rattle.adl_meaning.specs.declared.flat.Leaf.{Leaf}
pub use Rattle.cam_base.proofs.Errors.{err_is}
pub use Rattle.cam_base.proofs.Gathered.{from_gather, gather_turn, in_append, in_place, listed_at, place_of}
pub use Rattle.cam_base.proofs.Lists.{drop_first, length-filter_map, list_any-map, nil_append, position_from-snoc}
pub use Rattle.cam_base.proofs.NumberedLists.{all_in, at_place, below, from_any, from_flat_map, from_map, get_map, in_any, none_in, read_place}
pub use Rattle.cam_base.specs.Fields.{spaced_fields}
pub use Rattle.cam_base.specs.Gather.{IsIn, gather}
pub use Rattle.cam_base.specs.Lines.{Line, lines}
pub use Rattle.cam_base.specs.Unread.{SourceError, yields}
pub use Rattle.cam_base.specs.declared.place.Fault.{Fault}
pub use Rattle.cam_base.specs.declared.place.Place.{Place}
pub use Rattle.cam_io.specs.Contents.{Contents}
pub use Rattle.cam_io.specs.Reading.{InAll, KeepsFiles, LearnsOnly}
pub use Rattle.cap_model.specs.declared.level.Arch.{Arch}
pub use Rattle.cap_model.specs.declared.level.Arch.TheVariants.{Aarch64, Arm11}
pub use Rattle.name_tables.specs.ByName.{found}
pub use Rattle.name_tables.specs.Sharing.{shares}
pub use Rattle.sect_table.specs.Headers.{header_of}
pub use Rattle.sect_table.specs.Sections.{is_sound, section_of, spelled, where_sound}
pub use Rattle.sect_table.specs.Tables.{bad_between, bad_line, fault_in, first_bad, first_fault, image, image_in, image_of, section_at}
pub use Rattle.sect_table.specs.declared.image.Header.{Header}
pub use Rattle.sect_table.specs.declared.image.Image.{Image}
pub use Rattle.sect_table.specs.declared.image.Section.{Section}
pub use Rattle.source_images.specs.Archs.{at_first_line, differs, first_arch, header_in, is_other, other_arch}
pub use Rattle.source_images.specs.ByAddress.{by_address, name_of, page_at, pages_of, put_section, section_page_count, section_pages}
pub use Rattle.source_images.specs.Found.{AlikeAsRead, AlikeInTables, AreFound, Found, absent, folder_of, found_bytes, found_in, found_of, is_slash, table, table_name, table_names, too_long}
pub use Rattle.source_images.specs.Images.{Placed, arch_of, image_number, is_run, placed, sections_end, sections_if, sections_of}
pub use Rattle.source_images.specs.ImagesRead.{AreImagesRead, images_in, images_of}
pub use Rattle.source_images.specs.Numbered.{AreApart, AreNumbered, AreSound}
pub use Rattle.source_images.specs.SectionPages.{placed_told, region_of, sections_told, is_inside, page_count, share_page}
pub use Rattle.source_images.specs.SpaceFaults.{clashes, clashes_with, domain_faults, fault_at, first_space_fault, image_faults, is_outside, leaf_faults, space_faults}
pub use Rattle.source_images.specs.TableFaults.{first_table_fault, line_fault, line_faults, listed, missing, missing_at, name_of_file, table_faults}
pub use Rattle.source_images.specs.Told.{AreTablesRead, IsAnswer, IsFound, IsTableRead, file_name, files_told, first_missing, first_of, first_read, merged, merged_with, missing_by, missing_reading, names_told, reading_in, reading_of, readings_of}
pub use Rattle.source_images.specs.Told.{table_at, table_told, tables_told, with_fault, with_more, with_type}
pub use Rattle.source_images.specs.Types.{Name, type_number, type_of, types}
pub use Rattle.source_images.specs.declared.images.Images.{Images}
pub use Rattle.source_images.specs.declared.reading.Reading.{Reading}
pub use Rattle.source_images.specs.declared.tables.Table.{Table}
pub use Rattle.std.proofs.Common.{Bool, Err, IsTrue, List, None, Ok, Option, Result, Some, [], add-one, ap, append_assoc, arith, cond, drop, false, get_or, inl, inr, is_some, length, lit<, map, nat_eq, nat_lt, not, refl, replicate, rules, set, subst}
pub use Rattle.std.proofs.Common.{suc, sym, take, true, true≢false, zero, ℕ, ⊎_elim, ◌%◌, ◌&&◌, ◌*◌, ◌++◌, ◌+◌, ◌-◌, ◌/◌, ◌<◌, ◌^◌, ◌||◌, ◌∙◌, ◌∷◌, ◌≡◌, ◌≢◌, ◌≤◌, ◌⊎◌}
pub use Rattle.std.proofs.Math.Bool.{and-false, or-false, or-true}
pub use Rattle.std.proofs.lemmas.Bool.{and_cases, and_from, and_left, and_parts, and_right, both_ways, cases_Bool, cases_eq, eq-eqb, eqb-true, leb-false, leb-true, lt-ltb, ltb-false, ltb-true, ne_eqb, not-false, not-true}
pub use Rattle.std.proofs.lemmas.Bool.Decides.{nat_tests}
pub use Rattle.std.proofs.lemmas.Grind.{common_steps, flat_map-append}
pub use Rattle.std.proofs.lemmas.Iterator.Adapters.{position_from-zero}
pub use Rattle.std.proofs.lemmas.List.{append-nil, at_drop_all, at_drop_more, get_or-set_other, get_or-set_same, length-append, length-map, length-set, map-append, map_push, take_more}
pub use Rattle.std.proofs.lemmas.List.Sorted.{All-permutation, IsNonDecreasingBy-from_sort_by_key, IsPermutation-cons, IsPermutation-map, IsPermutation-middle, IsPermutation-refl, IsPermutation-sym, IsPermutation-trans, list_any-IsPermutation}
pub use Rattle.std.proofs.lemmas.List.Sorted.{sum_by-IsPermutation}
pub use Rattle.std.proofs.lemmas.Option.{same_Some, slice_get-get_or, slice_get_past, slice_get_read}
pub use Rattle.std.specs.Borrow.{Bor}
pub use Rattle.std.specs.List.{All, AllPairs, cons_option, filter_map, flat_map, fold, list_all, list_any, position, position_from, range_with_len, slice_get, slice_range, sum_by, zip}
pub use Rattle.std.specs.List.Sorted.{IsNonDecreasingBy, IsPermutation}
pub use Rattle.std.specs.Option.{option_and_then, option_map, option_map_or, option_or}
pub use Rattle.std.specs.Prelude.{IfOk, leb, min, string_bytes, sum, unwrap_or}
pub use Rattle.std.specs.Str.{IsUtf8, bytes_eq}
