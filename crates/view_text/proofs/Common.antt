-- The names that most proofs cite, passed on from one place. Declares nothing.
pub use Rattle.authorities.specs.declared.authority.Authority.TheVariants.{Receive}
pub use Rattle.cam_base.proofs.Gathered.{gather_turn}
pub use Rattle.cam_base.specs.Gather.{gather}
pub use Rattle.std.proofs.Common.{Bool, Bor, List, [], ap, arith, codes, false, if◌then◌else◌, map, not, refl, subst, sym, take, take_all, true, ℕ, ◌&&◌, ◌++◌, ◌+◌, ◌==◌, ◌||◌, ◌∙◌, ◌∷◌, ◌≡◌, ◌≤◌}
pub use Rattle.std.proofs.lemmas.List.Folds.{flat_map-map, list_all-append}
pub use Rattle.std.proofs.lemmas.Option.{get_or_from_slice_get, slice_get-get_or}
pub use Rattle.std.specs.List.{flat_map, list_all}
pub use Rattle.view_text.specs.Graphs.{arrow_line, node_line, note_at, quoted_byte}
pub use Rattle.view_text.specs.Html.{IsPlain, escaped, escaped_byte, is_markup, table_row, tagged}
pub use Rattle.view_text.specs.Pictures.{arrow_of, held_line, node_of, shape_at}
pub use Rattle.view_text.specs.Spots.{drawn, place_behind}
