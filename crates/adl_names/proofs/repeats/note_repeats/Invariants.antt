use Rattle.adl_names.proofs.Common.{drop, flat_map, has_name, noted, repeats, repeats_after, ◌≡◌}
use Rattle.adl_names.proofs.repeats.note_repeats.Given as goal

abbrev pub invariant-loop-item : goal.invariant-loop-item
invariant-loop-item g l =
    noted l.first (repeats_after (has_name l.met) (flat_map g.T.Worded.words (drop l.item-index l.items)))
    ≡ noted l.fn.first (repeats (flat_map g.T.Worded.words l.items))
