-- The names that most proofs cite, passed on from one place. Declares nothing.
pub use Rattle.boot_plan.specs.Devices.{device_refusal, has_page, is_needed}
pub use Rattle.boot_plan.specs.DevicesTold.{IsIndexOf, IsSetOf, has_pages, page, pages_of}
pub use Rattle.boot_plan.specs.Needs.{are_usual, bits_of, has_few_bits, is_usual, need, needs, table_bits}
pub use Rattle.boot_plan.specs.Overlaps.{first_overlap, overlap_at, overlap_behind, refused_overlap}
pub use Rattle.boot_plan.specs.Packing.{AllFit, AreBases, AreStarts, FitsAt, HasOffset, IsInOrder, address, exact_bytes, needed_at, packed, place_of, starts_behind}
pub use Rattle.boot_plan.specs.Placed.{AllApart, AllSuit, Apart, Bytes, LieIn, LieInOne, Placed, Suits, all_bytes, bytes_end}
pub use Rattle.boot_plan.specs.Plans.{AreFree, Refuses}
pub use Rattle.boot_plan.specs.Regions.{are_regions, is_region, region_end, shares}
pub use Rattle.boot_plan.specs.Rooms.{HasRoom, IsRoomTold, LacksRoom, block_bytes, had, needed, rank, room_bytes}
pub use Rattle.boot_plan.specs.Texts.{bytes_placed, one_placed, place_line}
pub use Rattle.boot_plan.specs.UntypedTexts.{device_of, first_bad, judged, line_given, numbers_of, region_at, region_in, region_of, regions_in, regions_limit, unless_bad}
pub use Rattle.boot_plan.specs.declared.need.Need.{Need}
pub use Rattle.boot_plan.specs.declared.need.Need.TheVariants.{Block, DevicePage, Nothing}
pub use Rattle.boot_plan.specs.declared.plan_refusal.PlanRefusal.{PlanRefusal}
pub use Rattle.boot_plan.specs.declared.plan_refusal.PlanRefusal.TheVariants.{NoDevice, NoMemory, NoRoom, Overlap, SharedFrame}
pub use Rattle.boot_plan.specs.declared.untyped.Untyped.{Untyped}
pub use Rattle.cam_base.specs.LinesLeft.{line_of, lines_left}
pub use Rattle.cam_io.proofs.Saying.{said_all, says_line, says_lines, says_nothing, says_then}
pub use Rattle.cap_model.specs.Kept.{IsKept, fits, if_any, keeps, keeps_fill, keeps_slots}
pub use Rattle.cap_model.specs.declared.object.Object.{Object}
pub use Rattle.cap_model.specs.declared.object.Object.TheVariants.{CNode, Endpoint, Frame, Irq, Notification, Pages, Thread}
pub use Rattle.cap_model.specs.declared.spec.Entry.{Entry}
pub use Rattle.cap_model.specs.declared.spec.Spec.{Spec}
pub use Rattle.std.proofs.Common.{Bool, Err, List, None, Ok, Option, Result, Some, [], ap, append-nil, append_assoc, arith, cond, drop, false, get_or, get_or-set_other, get_or-set_same, inl, inr, leb, length, lit<, map, min, nat_lt, not, refl, rules}
pub use Rattle.std.proofs.Common.{subst, suc, sym, take, true, zero, ℕ, ⊎_elim, ◌%◌, ◌&&◌, ◌*◌, ◌++◌, ◌+◌, ◌-◌, ◌/◌, ◌<◌, ◌==◌, ◌^◌, ◌||◌, ◌∙◌, ◌∷◌, ◌≡◌, ◌≢◌, ◌≤◌, ◌⊎◌}
pub use Rattle.std.proofs.Math.Nat.{le_of_mul-le-mul_right, mul-le-mul_right, mul-mod_left, one-le-pow, pow-le-pow_right, pow-suc}
pub use Rattle.std.proofs.lemmas.Bool.{and_from, and_parts, cases_lt, eqb-true, le-leb, le-ltb, leb-true, lt-ltb, not-true, or_parts, or_right}
pub use Rattle.std.proofs.lemmas.Bool.Decides.{nat_tests}
pub use Rattle.std.proofs.lemmas.List.{at_drop_all, at_drop_more, drop_more, get_or_append_left, get_or_default, get_or_push, length-take-le, length_push, take_all, take_more}
pub use Rattle.std.proofs.lemmas.List.Folds.{list_all-append, list_any-append, list_any_more}
pub use Rattle.std.proofs.lemmas.List.Sorted.{IsNonDecreasingBy-from_sort_by_key, IsPartitionPoint-from_clause, IsPartitionedBy-leb, list_any-IsPermutation, sum_by-IsPermutation}
pub use Rattle.std.proofs.lemmas.List.Sums.{sum_by-append, sum_by-cons, sum_by_more}
pub use Rattle.std.proofs.lemmas.Slice.Zip.{get_or-zip, length-zip, zip_end, zip_turn}
pub use Rattle.std.specs.List.{AllByRecursion, flat_map, list_all, list_any, position, position_from, slice_index, sum_by, zip}
pub use Rattle.std.specs.List.Sorted.{IsNonDecreasing, IsPartitionPoint, IsPermutation}
pub use Rattle.std.specs.Option.{is_some, option_map, option_or}
pub use Rattle.std.specs.Prelude.{IfOk, slice_set}
