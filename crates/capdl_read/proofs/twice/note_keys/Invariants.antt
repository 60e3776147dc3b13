use Rattle.capdl_read.proofs.Common.{drop, has_key, keys_after, keys_twice, map, noted, ◌≡◌}
use Rattle.capdl_read.proofs.twice.note_keys.Given as goal

abbrev pub invariant-loop-item : goal.invariant-loop-item
invariant-loop-item g l =
    noted l.first (keys_after l.name (has_key l.met) (map g.K.Keyed.keyed_as (drop l.item-index l.items))) ≡ noted l.fn.first
    (keys_twice l.name (map g.K.Keyed.keyed_as l.items))
