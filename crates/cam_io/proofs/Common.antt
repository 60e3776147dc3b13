-- The names that most proofs cite, passed on from one place. Declares nothing.
pub use Rattle.cam_io.specs.Causes.{Rose, one_more}
pub use Rattle.cam_io.specs.Channels.{Channel, begun_name, blank, filled, named_channel}
pub use Rattle.cam_io.specs.Contents.{Contents}
pub use Rattle.cam_io.specs.MemOutputs.{of_channel, room_of, sink_of}
pub use Rattle.cam_io.specs.NamedFiles.{contents_of, count_at, count_of, counts_for, lookup, replaced}
pub use Rattle.cam_io.specs.Reading.{HaveSameFront, InAll, IsGot, KeepsFiles, LearnsOnly}
pub use Rattle.cam_io.specs.Saying.{Flushes, Said, Says, outcome}
pub use Rattle.cam_io.specs.Seen.{Agrees, Grows, HasAny, HasSeen, Learns, seen_of, wanted, whole_of_any}
pub use Rattle.cam_io.specs.Sinks.{IsCut, IsOpen, Sink, Writes, appended, is_open}
pub use Rattle.cam_io.specs.declared.files.Got.TheVariants.{Bytes}
pub use Rattle.cam_io.specs.declared.named_file.NamedFile.{NamedFile}
pub use Rattle.cam_io.specs.declared.seen.Seen.{Seen}
pub use Rattle.std.proofs.Common.{Bool, Bor, Err, IsErr, IsTrue, List, None, Ok, OnOk, Option, Result, Some, [], add-one, ap, append-nil, append_assoc, arith, cond, drop, false, get_or, inl, inr, is_err, is_some, length, length-drop, map, min, not}
pub use Rattle.std.proofs.Common.{refl, rules, slice_get, slice_set, subst, suc, sym, take, take_all, true, zero, ℕ, ◌++◌, ◌+◌, ◌-◌, ◌<◌, ◌==◌, ◌||◌, ◌∙◌, ◌∷◌, ◌≡◌, ◌≤◌, ◌⊎◌}
pub use Rattle.std.proofs.Math.Dec.{eqb-suc-suc, eqb-suc-zero, eqb-zero-suc}
pub use Rattle.std.proofs.Math.Seq.{take-add, take-append-add}
pub use Rattle.std.proofs.lemmas.Bool.Decides.{nat_tests}
pub use Rattle.std.proofs.lemmas.Cmp.{nat_list_cmp_total}
pub use Rattle.std.proofs.lemmas.Grind.{common_steps, flat_map-append}
pub use Rattle.std.proofs.lemmas.List.{length-append, length-take, map-append, take-append-drop, take-append-le, take-take, take_min, take_more}
pub use Rattle.std.proofs.lemmas.Map.Text.{is_eq-slice_cmp}
pub use Rattle.std.proofs.lemmas.Option.{get_or_from_slice_get, slice_get-get_or, slice_get_read}
pub use Rattle.std.proofs.lemmas.Slice.Eq.{bytes_eq-Decides}
pub use Rattle.std.specs.FinMap.{contains_key, empty, find, from_entries, from_entries_push, get, get-from_entries, get-insert, insert, nat_cmp-IsAntisymmetric, same_map, slice_cmp-IsAntisymmetric}
pub use Rattle.std.specs.List.{flat_map}
pub use Rattle.std.specs.Option.{option_map}
pub use Rattle.std.specs.Str.{bytes_eq}
