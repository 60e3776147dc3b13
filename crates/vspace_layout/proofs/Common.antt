-- The names that most proofs cite, passed on from one place. Declares nothing.
pub use Rattle.adl_meaning.specs.declared.flat.Domain.{Domain}
pub use Rattle.adl_meaning.specs.declared.flat.Flat.{Flat}
pub use Rattle.adl_meaning.specs.declared.flat.FlatConnection.{FlatConnection}
pub use Rattle.adl_meaning.specs.declared.flat.FlatEnd.{FlatEnd}
pub use Rattle.adl_meaning.specs.declared.settled.Settled.{Settled}
pub use Rattle.cam_base.proofs.Gathered.{from_gather, gather_map, gather_ones, gather_same, gather_turn, gathered, get_behind, get_front, get_ones, in_append, in_place, length_append, place_of}
pub use Rattle.cam_base.proofs.NumberedLists.{at_place, below, from_flat_map, from_get_map, from_map, from_range, get_map, in_map, length-gather, read_in, read_place}
pub use Rattle.cam_base.specs.Gather.{IsIn, before, gather}
pub use Rattle.cap_model.specs.declared.level.Arch.{Arch}
pub use Rattle.cap_model.specs.declared.level.Arch.TheVariants.{Aarch64, Arm11}
pub use Rattle.cspace_layout.specs.Counted.{capped}
pub use Rattle.cspace_layout.proofs.Taking.{Turned, gather_push, turned}
pub use Rattle.cspace_layout.specs.LeafEnds.{ends_at}
pub use Rattle.cspace_layout.specs.System.{all_ends}
pub use Rattle.cspace_layout.specs.declared.end_at.EndAt.{EndAt}
pub use Rattle.source_images.proofs.Free.{free_apart, free_inside}
pub use Rattle.source_images.proofs.Sorting.{Later, in_permutation, own_all}
pub use Rattle.source_images.specs.ByAddress.{by_address, name_of, page_at, pages_of, put_section, section_page_count, section_pages}
pub use Rattle.source_images.specs.Images.{Placed, arch_of, sections_end, sections_of}
pub use Rattle.source_images.specs.Numbered.{AreApart, AreCounted, AreNumbered, AreSound}
pub use Rattle.source_images.specs.SectionPages.{is_inside, page_count}
pub use Rattle.source_images.specs.declared.images.Images.{Images}
pub use Rattle.source_images.specs.declared.pages.SectionPage.{SectionPage}
pub use Rattle.std.proofs.Common.{Bool, List, None, Ok, Option, Some, [], add-one, ap, append_assoc, arith, cond, drop, false, get_or, inl, inr, length, map, refl, rules, subst, suc, sym, take, true, zero, ℕ, ⊎_elim, ◌&&◌, ◌*◌, ◌++◌, ◌+◌, ◌-◌, ◌<◌}
pub use Rattle.std.proofs.Common.{◌==◌, ◌^◌, ◌∙◌, ◌∷◌, ◌≡◌, ◌≤◌}
pub use Rattle.std.proofs.lemmas.Bool.{and_parts, eq-eqb, eqb-true, ltb-false, ltb-true}
pub use Rattle.std.proofs.lemmas.Iterator.Adapters.{items_from_extend, position_from-zero}
pub use Rattle.std.proofs.lemmas.List.{at_drop_more, get_or_default, length-map, map-append}
pub use Rattle.std.proofs.lemmas.List.FromFn.{length-map-range_with_len, map-range_with_len_more}
pub use Rattle.std.proofs.lemmas.List.Quantifiers.{position-Some}
pub use Rattle.std.proofs.lemmas.List.Sums.{sum_by-cons}
pub use Rattle.std.proofs.lemmas.Option.{get_or_from_slice_get, same_Some, slice_get-get_or}
pub use Rattle.std.proofs.lemmas.Simd.{map-map}
pub use Rattle.std.specs.List.{All, AllPairs, count_by, flat_map, position, position_from, range_with_len, slice_get}
pub use Rattle.std.specs.Option.{option_and_then, option_map_or, option_or}
pub use Rattle.std.specs.Prelude.{codes, leb, option_map, slice_index_or, sum, ◌%◌}
pub use Rattle.std.specs.Vec.Iter.{into_iter_len}
pub use Rattle.vspace_layout.specs.CanLay.{CanLay}
pub use Rattle.vspace_layout.specs.FrameNumbers.{AreFirsts, IsNumbered, all_numbered, all_own, first_of, firsts_from, frames_by, frames_where, is_own, is_own_frame, is_that, memory_first, memory_firsts, number_of, numbered_page, own_added}
pub use Rattle.vspace_layout.specs.FrameNumbers.{pages_numbered, places_of, first_at, first_number, first_numbers, key_of, leads_by, same_key}
pub use Rattle.vspace_layout.specs.Frames.{device_frame, frame, frames, frames_at, is_first, memory_before, memory_number, memory_part, number_shown, own_frame, own_frames, own_number, own_part, register_frame, register_frames, register_part}
pub use Rattle.vspace_layout.specs.Frames.{registers_before, shared_frames, shared_part}
pub use Rattle.vspace_layout.specs.Given.{Given, arch, base, ends, given_by, leaves_of, wired_of}
pub use Rattle.vspace_layout.specs.MappedPages.{mapped_pages, page_of, pages_from, pages_of_region, region_page, region_part, section_page, section_part}
pub use Rattle.vspace_layout.specs.Memory.{first_to, is_shared, leads_to, memory_paddr, memory_pages, registers, registers_in, same_port}
pub use Rattle.vspace_layout.specs.Outlines.{AreFew, AreFit, AreOutlined, RegionsFit, StacksFit, all_counted, all_mapped, counted_by, domain_counted, domain_mapped, mapped_by, mapped_of, no_outline, outline, outlines, page_count_of, pages_at}
pub use Rattle.vspace_layout.specs.Outlines.{regions_at, space_at, space_in, spaces_in, spaces_with, start_at, starting, starts_in, thread_at, thread_places, window_place, window_places}
pub use Rattle.vspace_layout.specs.PageLimits.{limit_over, limits_passed, page_counts, table_counts, tables_needed, tables_of}
pub use Rattle.vspace_layout.specs.Regions.{domain_windows, end_window, leaf_windows, pages_in, region, region_start, regions, regions_in, stack_pages, start, thread_regions, threads_of, window_pages, window_region, windows_of}
pub use Rattle.vspace_layout.specs.SpaceLaws.{AddressesAreLow, FramesStand, PagesRise, RegionsAreApart, SectionsStand, address_limit}
pub use Rattle.vspace_layout.specs.Threads.{domain_threads, leaf_threads, server, thread}
pub use Rattle.vspace_layout.specs.declared.mapped.MappedPage.{MappedPage}
pub use Rattle.vspace_layout.specs.declared.mapped.Shown.{Shown}
pub use Rattle.vspace_layout.specs.declared.mapped.Shown.TheVariants.{Memory, Own}
pub use Rattle.vspace_layout.specs.declared.outline.Outline.{Outline}
pub use Rattle.vspace_layout.specs.declared.owner.Owner.TheVariants.{OfConnection, OfDomain}
pub use Rattle.vspace_layout.specs.declared.ports.PortKey.{PortKey}
pub use Rattle.vspace_layout.specs.declared.region.Content.TheVariants.{Stack, Window}
pub use Rattle.vspace_layout.specs.declared.region.Region.{Region}
pub use Rattle.vspace_layout.specs.declared.spaces.FrameInfo.{FrameInfo}
pub use Rattle.vspace_layout.specs.declared.spaces.Page.{Page}
pub use Rattle.vspace_layout.specs.declared.spaces.Space.{Space}
pub use Rattle.vspace_layout.specs.declared.thread.ThreadOf.{ThreadOf}
