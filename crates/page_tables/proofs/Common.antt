-- The names that most proofs cite, passed on from one place. Declares nothing.
pub use Rattle.cam_base.proofs.Gathered.{from_gather, gather_more, get_behind, get_front, in_append, in_gather, in_left, in_place, in_right, length_append, place_of}
pub use Rattle.cam_base.proofs.NumberedLists.{below, from_map, get_map, in_map, map_ones, read_in}
pub use Rattle.cam_base.specs.Gather.{IsIn, gather}
pub use Rattle.cap_model.specs.Levels.{child, size}
pub use Rattle.cap_model.specs.declared.cap.Cap.{Cap}
pub use Rattle.cap_model.specs.declared.level.Arch.{Arch}
pub use Rattle.cap_model.specs.declared.level.Arch.TheVariants.{Aarch64, Arm11}
pub use Rattle.cap_model.specs.declared.level.Level.TheVariants.{Directory, Global, Table, Upper}
pub use Rattle.cap_model.specs.declared.object.Object.{Object}
pub use Rattle.cap_model.specs.declared.object.Object.TheVariants.{Pages}
pub use Rattle.page_tables.specs.Counts.{count_at, levels_of, run_ends, table_count}
pub use Rattle.page_tables.specs.Fits.{AreShapes, CanLink, CanLinkAll, IsShape}
pub use Rattle.page_tables.specs.Levels.{IsChild, IsInner, IsMapped, Layer, layer, layers, level_of, linked, no_rights, numbered, sizes, slot_of, table_of, tables_of, upper, uppers}
pub use Rattle.page_tables.specs.Runs.{Ascends, Rises, first_run, front, head_of, heads, put_front, runs, under}
pub use Rattle.page_tables.specs.Shapes.{AreStacked, IsOver, shape, shapes, span}
pub use Rattle.page_tables.specs.declared.mapping.Mapping.{Mapping}
pub use Rattle.page_tables.specs.declared.shape.Shape.{Shape}
pub use Rattle.std.proofs.Common.{Bool, List, None, Ok, OnOk, Option, Some, ℕ, [], ap, append-nil, append_assoc, arith, cond, drop, false, get_or, inl, inr, length, length-drop, map, mul_assoc, refl, replicate, rules, subst, suc, sym, take, true, zero, ◌*◌, ◌++◌}
pub use Rattle.std.proofs.Common.{◌+◌, ◌-◌, ◌/◌, ◌<◌, ◌^◌, ◌↔◌, ◌∙◌, ◌∷◌, ◌≡◌, ◌≢◌, ◌≤◌, ◌⊎◌}
pub use Rattle.std.proofs.Math.Nat.{div-add-mod, div-div-eq-div-mul, div-eq_of_lt, div-lt_iff_lt-mul, div-mul-le_self, mod-lt, mul-div_cancel, mul-pos, suc-mul}
pub use Rattle.std.proofs.Math.Seq.{drop-append_seam}
pub use Rattle.std.proofs.lemmas.Bool.{cases_lt, eq-eqb, eqb-false, eqb-true, lt-ltb, ltb-false, ltb-true, ne_eqb}
pub use Rattle.std.proofs.lemmas.List.{drop_more, get_or-map, length-map, map-append, take_all}
pub use Rattle.std.proofs.lemmas.Nat.{le-div}
pub use Rattle.std.specs.List.{slice_get}
pub use Rattle.std.specs.Prelude.{◌%◌, ◌==◌}
