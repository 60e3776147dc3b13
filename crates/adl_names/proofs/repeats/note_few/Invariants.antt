use Rattle.adl_names.proofs.Common.{drop, flat_map, noted, repeats, repeats_after, ◌≡◌}
use Rattle.std.specs.Prelude.{take}
use Rattle.adl_names.specs.Tables.{is_met}
use Rattle.adl_names.proofs.repeats.note_few.Given as goal

abbrev pub invariant-loop-place : goal.invariant-loop-place
invariant-loop-place g l =
    noted l.first (repeats_after (is_met g.T.Worded.words (take l.place l.items))
    (flat_map g.T.Worded.words (drop l.place l.items)))
    ≡ noted l.fn.first (repeats (flat_map g.T.Worded.words l.items))
